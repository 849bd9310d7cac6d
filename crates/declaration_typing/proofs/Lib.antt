pub mod Each
pub mod Records
pub mod Sorted
