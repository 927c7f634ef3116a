-- Laws of a listing: its pieces and its words, its rule lines, its lines; rules at their first places, the whole listing, its contents and what is
-- claimed of the entry.
pub mod Parting
pub mod Wording
pub mod Options
pub mod RuleLine
pub mod Naming
pub mod Lines
pub mod FirstPlaces
pub mod Part
pub mod Whole
pub mod Contents
pub mod Claims
