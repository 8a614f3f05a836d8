mod Behind
pub mod Commands
pub mod Decided
mod Keyed
mod Looked
mod Rows
