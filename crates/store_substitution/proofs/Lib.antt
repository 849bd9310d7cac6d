pub mod Needed
pub mod Replaced
pub mod Tables
