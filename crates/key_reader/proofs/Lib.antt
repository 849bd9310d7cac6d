pub mod StepHeads
pub mod ItemHeads
pub mod LegParts
