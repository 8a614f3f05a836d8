pub mod Batches
pub mod Input
pub mod Faults
