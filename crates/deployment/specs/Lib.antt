-- The bytes of document 01. Read in this order.
pub mod Checked
pub mod Bytes
pub mod Values
pub mod Contents
pub mod Commands
pub mod Catalogue
pub mod File
pub mod FieldValues
pub mod Flows
pub mod Properties
pub mod Claims
