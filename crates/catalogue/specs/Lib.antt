-- What the tests of a catalogue's rules answer, over the definitions of the deployment crate.
pub mod Answers
pub mod RuleMarks
