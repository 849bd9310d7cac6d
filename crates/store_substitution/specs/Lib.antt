pub mod Loose
pub mod Levels
pub mod Table
