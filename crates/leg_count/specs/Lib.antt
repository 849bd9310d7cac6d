pub mod Capped
pub mod Depth
