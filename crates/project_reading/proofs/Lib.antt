pub mod Sorting
pub mod Progress
