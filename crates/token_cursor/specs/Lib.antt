pub mod Outcome
pub mod Gives
pub mod Lists
pub mod Types
