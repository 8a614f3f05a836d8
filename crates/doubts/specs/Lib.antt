pub mod Doubts
pub mod Facts
pub mod Gathered
pub mod Spanned
