pub mod Arguments
pub mod Ends
pub mod Entering
pub mod Steps
