pub mod Examples
pub mod Covered
pub mod Sequents
