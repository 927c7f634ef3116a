pub mod SideBySide
pub mod Rules
pub mod Marking
pub mod Catalogue
pub mod Answers
