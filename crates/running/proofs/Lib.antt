pub mod Slots
pub mod Edits
pub mod Names
pub mod Place
pub mod Claims
pub mod Answers
