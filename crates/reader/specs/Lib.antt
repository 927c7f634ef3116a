-- What the reader answers, over the definitions of the deployment crate.
pub mod Answers
pub mod Steps
pub mod Claims
