-- What is kept of a listing while it is gone through.
pub mod Kept
pub mod Gathering
