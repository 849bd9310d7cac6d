pub mod Said
pub mod Complete
