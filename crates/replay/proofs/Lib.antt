pub mod Settled
pub mod Steps
pub mod Scripts
pub mod Values
pub mod Claims
pub mod Answers
