pub mod Run
pub mod Source
pub mod Sink
pub mod GiveAll
pub mod Folder
pub mod Stop
pub mod Memory
