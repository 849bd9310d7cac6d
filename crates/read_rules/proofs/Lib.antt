pub mod Typing
pub mod ReducedValues
pub mod Sites
pub mod Some
pub mod Defaults
pub mod ReadCases
