pub mod Workings
pub mod Ends
pub mod Closes
