pub mod News
pub mod Ways
