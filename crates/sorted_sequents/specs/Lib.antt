pub mod Fitting
pub mod Answers
pub mod Records
pub mod Claims
