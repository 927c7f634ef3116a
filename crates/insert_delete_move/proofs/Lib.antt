-- Laws that the proofs of the planner for insert, delete and move cite: the rules kept, and the two stages one after the other.
pub mod OwnChoice
pub mod PlanTwo
pub mod Answers
