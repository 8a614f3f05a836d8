pub mod Applied
pub mod Exact
pub mod Machine
pub mod Room
pub mod Steps
pub mod Words
