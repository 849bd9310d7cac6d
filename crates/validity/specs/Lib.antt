pub mod Validity
pub mod OneProof
pub mod Bind
pub mod Laws
