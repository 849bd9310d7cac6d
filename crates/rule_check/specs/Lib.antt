pub mod Forms
pub mod Cited
pub mod Changed
