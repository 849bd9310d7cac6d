pub mod SourceLaws
pub mod SinkLaws
pub mod GiveAllLaws
pub mod MemoryLaws
