pub mod Bare
pub mod Parted
pub mod Plain
pub mod Spaces
pub mod Written
