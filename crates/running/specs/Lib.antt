-- The running list, over the definitions of the policy crate.
pub mod Running
pub mod Place
pub mod Naming
pub mod Claims
