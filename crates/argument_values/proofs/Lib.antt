pub mod Lists
pub mod Sequences
pub mod Ends
pub mod Behind
pub mod Found
