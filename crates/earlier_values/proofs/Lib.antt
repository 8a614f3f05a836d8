pub mod Packing
pub mod Replacing
