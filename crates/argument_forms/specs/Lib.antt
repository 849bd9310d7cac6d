pub mod Constants
pub mod Machine
