pub mod Numbers
pub mod Defaults
pub mod ReadCases
