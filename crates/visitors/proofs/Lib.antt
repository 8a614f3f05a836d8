pub mod Moved
pub mod Seated
