mod Adding
mod Following
mod Room
pub mod Serving
mod Undo
