pub mod Numbers
pub mod ClaimLines
pub mod StepLines
pub mod Renaming
pub mod DemandLines
pub mod AddedItems
