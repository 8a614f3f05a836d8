pub mod Cuts
pub mod Named
pub mod Rows
