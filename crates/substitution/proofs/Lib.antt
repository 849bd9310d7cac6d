pub mod SubstitutionKeepsValues
pub mod Substitutions
