pub mod Answers
pub mod ManyFlows
pub mod Claims
