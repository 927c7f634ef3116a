-- Laws that the proofs of the second stage cite.
pub mod SecondStage
