-- The lines that the programs print, and what their printers need.
pub mod Text
pub mod Printing
pub mod Examples
