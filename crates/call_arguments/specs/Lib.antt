pub mod Arguments
pub mod Next
