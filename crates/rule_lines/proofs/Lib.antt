-- Laws of the text of rules, by which its printers are proved.
pub mod Joined
pub mod RangeForms
pub mod RuleLines
pub mod Lengths
pub mod Examples
