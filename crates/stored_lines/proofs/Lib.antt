pub mod Back
pub mod Growing
pub mod Levels
pub mod Relabel
pub mod Listed
pub mod Same
