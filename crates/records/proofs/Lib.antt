pub mod Back
pub mod Fields
pub mod Keys
pub mod Segments
pub mod Shallow
pub mod Worded
