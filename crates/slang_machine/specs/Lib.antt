pub mod Open
pub mod States
pub mod Expressions
pub mod Statements
pub mod Declarations
pub mod Machine
pub mod Examples
