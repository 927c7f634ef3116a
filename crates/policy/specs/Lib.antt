-- Document 01 without its bytes. Read in this order.
pub mod Lists
pub mod Rule
pub mod Policy
pub mod Command
pub mod Replay
pub mod AppendDelete
pub mod InsertDeleteMove
pub mod Judge
pub mod Cases
pub mod Properties
pub mod Claims
pub mod Scanning
pub mod Traps
