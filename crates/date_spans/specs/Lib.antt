pub mod Spans
pub mod Meeting
pub mod Between
pub mod Gathered
