pub mod RightSides
pub mod Settings
pub mod Arguments
