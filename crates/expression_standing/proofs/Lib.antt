pub mod Sizes
pub mod Lighter
