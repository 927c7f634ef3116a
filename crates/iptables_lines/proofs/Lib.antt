-- Laws of the functions on lines: names, numbers and counters; the words behind a position; what a line is; and one answer for each.
pub mod Names
pub mod Behind
pub mod Lines
pub mod Answers
