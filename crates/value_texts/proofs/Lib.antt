pub mod Said
pub mod RecordNames
