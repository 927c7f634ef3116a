-- What is found of a rule line.
pub mod Found
