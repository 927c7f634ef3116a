-- Laws of console text: words and numbers at the front of a text, a line, the first line as a command, a whole text, the longest text, and what
-- is claimed of them.
pub mod Wording
pub mod Numerals
pub mod Line
pub mod FirstLine
pub mod Whole
pub mod Longest
pub mod Claims
pub mod AnswerClaims
