pub mod TypeHeads
pub mod ClaimHeads
pub mod Coded
