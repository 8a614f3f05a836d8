pub mod Turned
pub mod Visited
