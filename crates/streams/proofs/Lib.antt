pub mod Claims
pub mod Answers
