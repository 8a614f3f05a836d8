pub mod Linking
pub mod Seeking
pub mod Spanning
pub mod Judging
pub mod Dated
pub mod Picking
