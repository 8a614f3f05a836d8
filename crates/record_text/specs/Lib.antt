pub mod Naming
pub mod Refusals
pub mod Text
pub mod Words
