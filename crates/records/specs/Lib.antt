pub mod Reading
pub mod Shallow
pub mod Stored
