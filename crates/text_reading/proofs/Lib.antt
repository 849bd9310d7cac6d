pub mod LimitLaws
pub mod GaugeLaws
pub mod ReadingLaws
pub mod FileLaws
pub mod FolderLaws
pub mod TextLaws
