-- Laws of the writer: pieces put one after another, and the file that they are; what is claimed of it, and one answer.
pub mod Pieces
pub mod Files
pub mod Claims
pub mod Answers
