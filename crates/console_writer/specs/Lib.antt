-- What the writers of console text need.
pub mod Printing
