-- What is read of a text from a position on.
pub mod Found
