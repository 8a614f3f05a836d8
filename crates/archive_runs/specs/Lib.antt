pub mod Tasks
pub mod Reading
pub mod Reporting
pub mod Runs
pub mod Beginning
pub mod Leaving
pub mod Seeing
