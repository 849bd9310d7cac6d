pub mod Marking
pub mod Calls
pub mod Searching
