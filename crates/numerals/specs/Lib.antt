-- Numbers in decimal digits, what code finds of them in a text, and what is claimed of them.
pub mod Numerals
pub mod Found
pub mod Claims
