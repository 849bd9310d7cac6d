pub mod Starts
pub mod Calls
pub mod Behind
pub mod Shown
pub mod Safety
pub mod Reached
