pub mod Behind
pub mod Starts
pub mod Reading
