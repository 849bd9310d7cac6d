pub mod Combined
pub mod Each
