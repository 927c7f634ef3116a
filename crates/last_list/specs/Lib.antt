-- What a replay whose last list is written answers, and every byte of the lent place.
pub mod Last
