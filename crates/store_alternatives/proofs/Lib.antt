pub mod Numbers
pub mod EndingRecords
pub mod AlternativeLists
pub mod ReadCases
pub mod Sites
