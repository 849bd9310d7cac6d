pub mod Inner
pub mod Sizes
