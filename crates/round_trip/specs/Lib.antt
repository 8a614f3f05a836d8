pub mod OrderLaws
pub mod Positions
pub mod Drafts
pub mod ReadingLaws
pub mod SameLaws
pub mod Same
