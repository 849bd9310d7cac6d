pub mod Members
pub mod Names
pub mod Demands
pub mod Items
pub mod Ready
