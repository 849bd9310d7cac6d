pub mod Changing
pub mod Citing
pub mod RuleLines
pub mod ListLines
