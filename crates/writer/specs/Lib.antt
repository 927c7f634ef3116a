-- What the writer answers, over the definitions of the deployment crate, and what is claimed of it.
pub mod Answers
pub mod Claims
