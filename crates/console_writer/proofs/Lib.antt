-- Laws of the text of script values and of plans, and the entries' answers.
pub mod Values
pub mod Plans
pub mod Answers
