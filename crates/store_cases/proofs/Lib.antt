pub mod SharedLists
pub mod Branching
pub mod Whole
