pub mod Ends
pub mod Proofs
