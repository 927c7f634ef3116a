-- Laws of the functions on a rule line: answers of two tests, words two by two, an option looked for, what is found of it, and the rule of all of
-- them; and that each answer is the only one.
pub mod Joining
pub mod Turns
pub mod Looking
pub mod Finding
pub mod Ruling
pub mod Answers
