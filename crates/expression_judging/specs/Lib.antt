pub mod Callee
pub mod Sizes
