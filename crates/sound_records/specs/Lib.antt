pub mod Knowing
pub mod Looks
pub mod Standing
pub mod Keys
pub mod Parts
