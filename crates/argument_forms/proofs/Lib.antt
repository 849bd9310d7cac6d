pub mod Walks
pub mod Near
pub mod Complete
pub mod TokenLaws
pub mod Sound
pub mod DigitLaws
