pub mod CheckLaws
pub mod WordsLaws
pub mod RowsLaws
