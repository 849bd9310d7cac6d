pub mod Counts
pub mod Entered
