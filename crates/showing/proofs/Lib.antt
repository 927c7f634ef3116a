-- Laws of the text, by which its printers are proved.
pub mod NumberLines
pub mod Scripts
pub mod Lengths
pub mod ShownTexts
pub mod Claims
pub mod Answers
pub mod Examples
