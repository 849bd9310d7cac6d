pub mod Depth
pub mod Parts
pub mod Decoding
