pub mod Records
pub mod Sorted
