-- What the judge answers, over the definitions of the crates below.
pub mod SoFar
pub mod Answers
pub mod Claims
