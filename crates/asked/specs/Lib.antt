-- What a word asks for.
pub mod Words
