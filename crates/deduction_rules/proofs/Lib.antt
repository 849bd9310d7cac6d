pub mod Forms
pub mod SymbolValues
pub mod ReplacedValues
pub mod RuleTruth
pub mod RangeTruth
pub mod Kept
pub mod Soundness
mod Examples
mod Table
