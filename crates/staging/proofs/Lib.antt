mod Cleared
pub mod Commits
mod Counting
pub mod Cursors
mod Drawing
mod Linking
mod Opening
mod Owned
pub mod Seen
mod Seeking
mod Spans
pub mod Stages
mod Steps
mod Thinned
mod Written
