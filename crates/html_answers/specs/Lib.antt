pub mod Hosts
pub mod Asked
pub mod Showing
pub mod Replies
pub mod Answers
