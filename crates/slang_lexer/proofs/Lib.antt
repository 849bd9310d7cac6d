pub mod Places
pub mod Laws
pub mod Names
pub mod Rows
pub mod Choices
pub mod Fronts
pub mod Tokens
