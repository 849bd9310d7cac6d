pub mod Words
pub mod Values
pub mod Arguments
pub mod Examples
