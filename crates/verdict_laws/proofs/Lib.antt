pub mod Outermost
pub mod Rules
