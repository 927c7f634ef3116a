-- Laws that the proofs of the entries cite; what is claimed of the definitions, and of the entries themselves.
pub mod Given
pub mod Decisions
pub mod Replays
pub mod Claims
pub mod PlanClaims
pub mod JudgeClaims
pub mod WriteClaims
pub mod Answers
pub mod PlanAnswers
pub mod JudgeAnswers
pub mod WriteAnswers
