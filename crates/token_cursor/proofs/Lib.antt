pub mod Steps
pub mod Exits
pub mod Turns
pub mod ReadTypes
