-- What is told of a line.
pub mod Told
