pub mod Operators
pub mod Claims
pub mod Programs
pub mod Variables
pub mod Legs
