-- How the ordering rule is tested on one list, over the definitions of `policy`.
pub mod Fronts
