pub mod CanonicalValues
pub mod FormOrder
pub mod FormValues
pub mod Narrow
pub mod Ordered
pub mod Settled
pub mod TreesApart
