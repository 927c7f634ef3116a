-- Laws of the readers of console text: words and numbers from a position on, a line, the command that a line is, lines gathered one after another,
-- the script field of a text; and one answer for the entry.
pub mod Standing
pub mod Numbers
pub mod Lines
pub mod Codes
pub mod OneLine
pub mod Gathering
pub mod ScriptField
pub mod Answers
