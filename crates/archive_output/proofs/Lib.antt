pub mod Exported
pub mod Asked
pub mod Calls
pub mod Named
pub mod Stopped
pub mod Masked
mod Own
mod Sound
mod Climbing
mod Finds
