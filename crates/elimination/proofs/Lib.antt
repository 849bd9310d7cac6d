mod Examples
pub mod Coefficients
pub mod Choice
pub mod NextRows
pub mod Soundness
pub mod Turns
