pub mod Combining
pub mod Lists
pub mod Untyped
