pub mod Packed
pub mod Pieces
pub mod Keys
