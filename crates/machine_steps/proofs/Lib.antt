pub mod Expr
pub mod Stmts
pub mod Starts
pub mod Types
pub mod Proofs
