mod Lists
mod Fresh
pub mod Links
pub mod LinksGone
pub mod Alike
mod Numbers
mod Published
mod PublishedLinks
mod PublishedSoughts
mod Spans
pub mod Staged
pub mod Removed
mod Staying
pub mod Taken
mod Traceless
pub mod Whole
