pub mod Partly
pub mod Drafts
pub mod Owners
pub mod Told
pub mod Trees
