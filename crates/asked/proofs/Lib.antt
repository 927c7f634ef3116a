-- Laws of the words.
pub mod Letters
pub mod Answers
