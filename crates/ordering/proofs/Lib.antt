pub mod Support
pub mod Growth
pub mod Search
pub mod Answers
