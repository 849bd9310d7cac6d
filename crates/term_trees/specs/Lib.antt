pub mod Shape
pub mod Term
