pub mod Steps
pub mod Conclusions
pub mod Sorted
pub mod Progress
pub mod Stops
pub mod Blocks
pub mod Whole
