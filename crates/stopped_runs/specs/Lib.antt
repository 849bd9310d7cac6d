pub mod Tests
pub mod Runs
pub mod Laws
pub mod Examples
