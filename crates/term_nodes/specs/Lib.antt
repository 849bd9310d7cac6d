pub mod Node
pub mod Key
