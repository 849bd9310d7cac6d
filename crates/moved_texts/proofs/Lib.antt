pub mod Lists
pub mod Expressions
pub mod Steps
pub mod Statements
pub mod Constants
pub mod Declarations
