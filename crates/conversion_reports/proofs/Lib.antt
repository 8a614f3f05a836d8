pub mod Counting
pub mod Pieces
pub mod Readings
pub mod Refusals
pub mod Plain
pub mod Making
