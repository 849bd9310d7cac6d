pub mod CompareLemmas
pub mod MeasureLemmas
