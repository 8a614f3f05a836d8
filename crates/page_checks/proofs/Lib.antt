pub mod Checked
pub mod Likes
mod Refused
pub mod Unblamed
