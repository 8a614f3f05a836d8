pub mod Making
pub mod Needed
pub mod Upward
