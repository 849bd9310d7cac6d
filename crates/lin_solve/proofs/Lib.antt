pub mod ChoiceLemmas
pub mod CountLemmas
pub mod KeptLemmas
pub mod LineLemmas
pub mod ProgressLemmas
pub mod SideLemmas
pub mod SolveLemmas
pub mod TurnLemmas
