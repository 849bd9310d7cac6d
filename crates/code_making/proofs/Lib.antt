pub mod Kept
pub mod Forms
pub mod Series
