pub mod Writing
pub mod Journal
pub mod Status
pub mod Refusals
pub mod Stop
