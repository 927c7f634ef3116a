-- What the replay answers, over the definitions of the crates below.
pub mod Stepping
pub mod Answers
pub mod Claims
