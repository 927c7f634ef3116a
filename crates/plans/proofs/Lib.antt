-- Laws of the script field under way, of marks, and of a plan's way into the lent place; the claims; one answer for each entry.
pub mod Sending
pub mod Marked
pub mod LentPlace
pub mod Claims
pub mod Answers
