-- Laws of numbers in decimal digits: read at the front of a text and as a whole word, counted in digit by digit, found from a position on; and
-- what is claimed of them.
pub mod Numerals
pub mod Counting
pub mod Numbers
pub mod Claims
