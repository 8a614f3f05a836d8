pub mod Compared
pub mod Guessed
