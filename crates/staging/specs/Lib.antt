pub mod Clearing
pub mod Counts
pub mod Opened
pub mod Opening
