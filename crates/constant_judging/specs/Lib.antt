pub mod Applied
pub mod Sizes
