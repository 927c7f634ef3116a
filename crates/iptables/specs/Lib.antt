-- A listing as `iptables-save` writes it, what it is brought in as, and what is claimed of that. Read in this order.
pub mod Words
pub mod Options
pub mod Listing
pub mod Answers
pub mod Properties
pub mod Claims
