pub mod Lists
pub mod Consts
pub mod Steps
pub mod Statements
pub mod Bodies
pub mod Declarations
