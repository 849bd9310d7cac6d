pub mod NumberedPassing
pub mod Laws
