-- What the contracts of reading cite, and what is claimed of it.
pub mod Reading
pub mod Claims
