pub mod Booleans
pub mod Numbers
pub mod Lists
pub mod Sorted
pub mod Outcomes
pub mod Bytes
