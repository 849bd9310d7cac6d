pub mod Parts
pub mod Begins
