pub mod Environment
pub mod Answers
pub mod Operations
