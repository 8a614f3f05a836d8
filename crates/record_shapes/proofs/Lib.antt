pub mod Entries
pub mod Events
pub mod Examples
pub mod Pairs
mod Families
mod Fields
mod Owned
mod Persons
mod Picked
mod Places
mod Records
mod Sources
pub mod EntryLines
pub mod Each
pub mod Limits
pub mod PathTexts
pub mod Trimmed
pub mod Names
pub mod Climbed
