pub mod Padding
pub mod Adding
pub mod Kept
