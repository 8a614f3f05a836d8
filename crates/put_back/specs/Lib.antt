pub mod Rows
pub mod Persons
pub mod Families
pub mod Events
pub mod Sources
pub mod Entries
pub mod Back
