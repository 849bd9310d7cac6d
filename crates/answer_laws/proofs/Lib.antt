pub mod Symbols
pub mod Reading
pub mod Steps
pub mod Passing
pub mod Verdicts
