-- What both planners share: the script field under way, marks of rules, the answer with every byte of the lent place, and what is claimed of it.
pub mod Sending
pub mod Marked
pub mod Plans
pub mod Claims
