pub mod Lines
pub mod Report
pub mod Hints
pub mod Streams
