-- Two makers' words for commands, what the words do to a list, and what is claimed of them.
pub mod Makers
pub mod Console
pub mod Claims
