pub mod Heights
pub mod Keys
