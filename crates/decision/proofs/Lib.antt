pub mod Answers
pub mod FirstMatch
pub mod Ranges
