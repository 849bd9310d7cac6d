pub mod TypeOf
pub mod Closed
pub mod Binds
pub mod Validity
