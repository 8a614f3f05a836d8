pub mod Marks
pub mod Reading
pub mod Faults
pub mod Shown
pub mod Views
pub mod Streams
