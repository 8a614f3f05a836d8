pub mod Lives
pub mod Turns
pub mod Places
