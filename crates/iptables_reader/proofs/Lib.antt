-- Laws of the reader of listings: rules that are kept, each once, and their file; what is seen of the lines, one after another; what is written then; and
-- one answer for the entry.
pub mod Keeping
pub mod Filing
pub mod Stepping
pub mod Gathering
pub mod Finishing
pub mod Answers
