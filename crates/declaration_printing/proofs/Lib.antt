pub mod Lists
pub mod Clauses
pub mod Lines
pub mod Forms
