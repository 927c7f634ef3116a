pub mod Policies
pub mod Naming
pub mod Scripts
pub mod Given
pub mod ValuesLent
pub mod Answers
pub mod Refusals
