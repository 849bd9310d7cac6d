pub mod Sizes
pub mod StepFaults
