pub mod PartLists
pub mod Shapes
pub mod Sizes
pub mod Sorts
pub mod Trees
