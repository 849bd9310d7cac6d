pub mod Failures
pub mod Visits
pub mod Examples
