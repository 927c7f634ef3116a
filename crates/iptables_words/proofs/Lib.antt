-- Laws of the functions on words: pieces from a position on, numbers in their bounds, addresses, ports and protocols; and one answer for each.
pub mod Same
pub mod Pieces
pub mod Numbers
pub mod Addresses
pub mod Ports
pub mod Protocols
pub mod Answers
