pub mod Settling
pub mod Views
pub mod Parts
pub mod Placed
