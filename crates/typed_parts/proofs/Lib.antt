pub mod Callees
pub mod Known
