pub mod Naming
pub mod EntryItems
pub mod CallLines
