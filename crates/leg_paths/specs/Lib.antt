pub mod Walks
pub mod Initial
