pub mod Begins
pub mod Expects
pub mod Below
pub mod Forms
