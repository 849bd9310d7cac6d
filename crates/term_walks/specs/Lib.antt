pub mod Measure
pub mod SortOrder
