pub mod Cuts
pub mod Fits
pub mod Applied
pub mod Checks
pub mod Entries
pub mod Exact
pub mod Numbers
