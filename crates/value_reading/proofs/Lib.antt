pub mod Slashes
pub mod Tokens
