-- Many flows decided by one policy, over the definitions of the crates below, and what is claimed of it. The decision of one flow is theirs.
pub mod Flows
pub mod Claims
