-- Laws of the whole texts.
pub mod PlanTexts
pub mod JudgeTexts
pub mod Claims
pub mod Answers
pub mod Examples
