pub mod Verdicts
pub mod Claims
pub mod Answers
