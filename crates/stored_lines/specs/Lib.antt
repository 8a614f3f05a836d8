pub mod Growing
pub mod Levels
pub mod Line
pub mod Tree
