pub mod Reading
pub mod Lists
pub mod ReadSteps
pub mod ReadStmts
