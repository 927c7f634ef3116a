-- Laws that the proofs of the planner for append and delete cite.
pub mod DeletesAppends
pub mod Answers
