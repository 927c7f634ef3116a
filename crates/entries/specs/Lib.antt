-- What the entries answer, over the definitions of the crates below, and what is claimed of it.
pub mod Answers
pub mod Claims
pub mod PlanClaims
pub mod JudgeClaims
pub mod WriteClaims
