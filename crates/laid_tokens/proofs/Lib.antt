pub mod Tables
pub mod Fronts
pub mod Follow
pub mod Levels
pub mod Lines
pub mod Whole
