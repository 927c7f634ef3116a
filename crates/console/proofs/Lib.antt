-- Laws of the words: a move before a place, the words taken apart, what is claimed of them, and one answer.
pub mod Before
pub mod Words
pub mod Claims
pub mod Answers
