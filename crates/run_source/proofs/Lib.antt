pub mod ReportLaws
pub mod EndLaws
pub mod RowLaws
