pub mod Substituting
pub mod SubstitutionKeepsValues
pub mod Substitutions
pub mod Validity
pub mod TellingClosed
