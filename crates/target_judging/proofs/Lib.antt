pub mod Calls
pub mod Modified
