pub mod Numbered
pub mod Claims
pub mod Values
pub mod Code
pub mod TypedProjects
