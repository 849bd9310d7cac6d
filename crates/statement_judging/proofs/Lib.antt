pub mod Sizes
pub mod Behind
pub mod Scopes
pub mod Faults
pub mod Forms
