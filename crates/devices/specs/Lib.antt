pub mod Devices
pub mod Counts
