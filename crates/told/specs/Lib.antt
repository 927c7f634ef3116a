-- What a caller is told, over the answers of the entries.
pub mod Answers
