pub mod Removing
pub mod Staging
