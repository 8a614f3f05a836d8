pub mod Addresses
pub mod Parts
pub mod Building
pub mod Frame
pub mod Errors
pub mod Style
