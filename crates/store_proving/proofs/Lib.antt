pub mod Closings
pub mod Narrow
