pub mod Steps
pub mod End
pub mod Checking
