-- What the C functions leave behind, over what a caller is told.
pub mod Answers
