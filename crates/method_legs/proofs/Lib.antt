pub mod Lists
pub mod Expressions
pub mod Claims
pub mod Methods
pub mod Calls
pub mod Legs
