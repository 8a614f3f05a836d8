mod Lists
pub mod Stored
pub mod Alike
mod Once
mod Merged
mod Same
mod Members
mod Picking
mod PutBack
mod Changing
mod Carrying
mod Tags
mod Texts
mod Rooms
mod MergeComparing
mod Keys
mod PathsKept
mod Part
mod Untaken
mod Joining
mod Merge
mod Undoing
mod Undo
pub mod Stepping
mod Differs
mod Restoring
mod Numbers
mod Used
pub mod Drawing
mod Applying
mod Judging
mod Deciding
mod Exactness
mod Planning
mod Numbering
mod Rows
