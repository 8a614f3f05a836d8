pub mod Parts
pub mod Comparing
pub mod Looks
pub mod Merges
pub mod Rest
pub mod Steps
