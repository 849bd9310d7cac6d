pub mod WellFormed
pub mod Examples
