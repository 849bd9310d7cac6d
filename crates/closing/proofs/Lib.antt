mod Examples
pub mod LiteralTruth
pub mod FormAtoms
pub mod TypedForms
pub mod AtomOrder
pub mod Completion
pub mod RowCases
pub mod RowShape
pub mod RowTruth
pub mod Parts
pub mod Steps
pub mod NarrowRows
