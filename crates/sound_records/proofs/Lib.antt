pub mod Surveyed
pub mod Firsts
pub mod Worded
pub mod Keyed
pub mod Judged
pub mod Whole
