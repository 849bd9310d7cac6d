pub mod Exprs
pub mod Sizes
pub mod Shapes
pub mod Codes
