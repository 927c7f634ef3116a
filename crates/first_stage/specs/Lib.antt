-- The first stage of the planner for insert, delete and move, as it is held between its steps.
pub mod Looking
pub mod FirstStage
