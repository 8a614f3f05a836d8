pub mod Entries
pub mod Naming
pub mod References
pub mod Words
