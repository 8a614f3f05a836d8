pub mod Links
pub mod Records
