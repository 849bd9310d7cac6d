pub mod Members
pub mod Closed
pub mod FoundTypes
pub mod Walks
