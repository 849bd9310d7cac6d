pub mod Value
pub mod Defaults
pub mod Reading
