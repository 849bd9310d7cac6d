pub mod TypedNames
pub mod Reading
pub mod WellSorted
