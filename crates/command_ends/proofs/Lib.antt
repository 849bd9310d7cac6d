pub mod WritingLaws
pub mod StatusLaws
pub mod EndLaws
pub mod CommandLaws
pub mod OutcomeLaws
