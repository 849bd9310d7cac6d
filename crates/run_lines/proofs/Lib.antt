pub mod Names
pub mod Appends
