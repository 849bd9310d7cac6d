pub mod Shapes
pub mod Sizes
pub mod Steps
pub mod Trees
pub mod Types
