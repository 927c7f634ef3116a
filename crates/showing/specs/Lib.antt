-- The text of a deployment file, what its printers need, and what is claimed of it.
pub mod Text
pub mod Printing
pub mod Claims
pub mod Examples
