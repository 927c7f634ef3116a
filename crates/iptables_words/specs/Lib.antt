-- What the functions on words tell.
pub mod Told
