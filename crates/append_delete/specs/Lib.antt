-- The script for append and delete, as its planner sends it.
pub mod DeletesAppends
