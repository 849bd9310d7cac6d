pub mod Expr
pub mod Shape
pub mod Program
pub mod LegData
pub mod Typed
