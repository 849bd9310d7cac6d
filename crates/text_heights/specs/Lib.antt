pub mod Heights
pub mod Low
