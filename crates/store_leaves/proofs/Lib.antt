pub mod Alike
pub mod Closings
pub mod Kept
