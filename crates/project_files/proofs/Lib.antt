pub mod Order
pub mod Sorting
pub mod Numbering
