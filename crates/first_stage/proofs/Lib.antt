-- Laws that the proofs of the first stage cite, and of them those of places, of looking and of edits that the second stage and the planner cite too.
pub mod ByPlace
pub mod Looking
pub mod Edits
pub mod TakeOne
pub mod FirstStage
