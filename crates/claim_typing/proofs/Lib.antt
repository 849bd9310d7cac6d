pub mod Parts
pub mod ClaimParts
pub mod ClaimForms
pub mod ClaimTypes
