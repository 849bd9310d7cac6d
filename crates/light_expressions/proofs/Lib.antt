pub mod Choice
pub mod Lightest
