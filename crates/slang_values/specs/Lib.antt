pub mod Number
pub mod Value
pub mod Tree
pub mod Typing
pub mod Laws
pub mod Measure
