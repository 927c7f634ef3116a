-- The second stage of the planner for insert, delete and move, step by step.
pub mod SecondStage
