pub mod MentionLines
