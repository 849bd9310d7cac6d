pub mod Counts
pub mod Expressions
pub mod Statements
pub mod Declarations
pub mod Lighter
pub mod Files
pub mod Whole
