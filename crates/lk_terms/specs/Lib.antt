pub mod Place
pub mod Substitution
pub mod Closed
pub mod Validity
pub mod OneProof
pub mod Sequent
pub mod Laws
