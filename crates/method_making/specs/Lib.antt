pub mod Methods
pub mod Made
