pub mod Numbering
pub mod Says
pub mod Answers
