pub mod Decls
pub mod Members
pub mod Next
pub mod Sound
