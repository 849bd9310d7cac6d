pub mod Newlines
pub mod Weights
pub mod Scan
pub mod Cut
pub mod Ranges
pub mod Bare
