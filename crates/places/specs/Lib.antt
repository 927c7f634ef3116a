-- The side array of the running list.
pub mod Places
