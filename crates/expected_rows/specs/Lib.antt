pub mod Expecting
pub mod Meeting
