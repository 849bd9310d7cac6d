pub mod StepLabels
pub mod Tested
