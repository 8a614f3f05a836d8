mod Adopted
mod Audited
mod Called
mod Closed
mod Committed
pub mod Histories
mod Imports
mod InTurn
mod Looked
mod Readable
mod Recalled
mod OpenCalls
pub mod Opened
mod Overwritten
mod Recognised
pub mod Running
mod Seen
mod Sessions
mod Steps
pub mod Told
mod Unchanged
pub mod Viewed
