-- Laws of the lines.
pub mod Digits
pub mod Pieces
pub mod Wording
pub mod Lines
pub mod Lengths
pub mod HandedOver
pub mod Answers
pub mod Examples
