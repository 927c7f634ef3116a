-- The text of rules, with worked examples.
pub mod Text
pub mod Examples
