-- The text of document 01's two programs, what its printers need, and what is claimed of it.
pub mod Text
pub mod Printing
pub mod Claims
pub mod Examples
