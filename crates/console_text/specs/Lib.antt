-- A script as console text, text as a script, the entries' answers, and what is claimed of them.
pub mod Text
pub mod Reading
pub mod Answers
pub mod Properties
pub mod Claims
pub mod AnswerClaims
