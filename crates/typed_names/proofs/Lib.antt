pub mod Made
pub mod Series
pub mod Places
