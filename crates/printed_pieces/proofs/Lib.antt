pub mod Ends
pub mod Expressions
pub mod Lists
pub mod Steps
pub mod Statements
pub mod Declarations
