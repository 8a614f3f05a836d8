pub mod Sitting
pub mod Visiting
pub mod Waiting
