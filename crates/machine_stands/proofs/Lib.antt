pub mod Tokens
pub mod Fronts
pub mod Opened
pub mod Inside
pub mod Stands
pub mod Gathered
pub mod Ends
