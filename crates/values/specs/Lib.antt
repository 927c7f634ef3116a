-- What the tests of field values answer, over the definitions of the deployment crate.
pub mod Answers
pub mod Claims
pub mod Naming
