pub mod CutLaws
pub mod SizeLemmas
pub mod StepLemmas
pub mod SumLaws
pub mod SumLemmas
