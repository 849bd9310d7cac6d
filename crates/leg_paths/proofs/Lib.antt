pub mod Walks
pub mod Forms
pub mod Constants
