pub mod Adding
pub mod Answered
pub mod Keyed
pub mod Liked
pub mod Listed
