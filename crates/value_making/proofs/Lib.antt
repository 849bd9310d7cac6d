pub mod Series
pub mod Forms
