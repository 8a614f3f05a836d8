pub mod Cut
pub mod EightLinks
pub mod FourRecords
pub mod Joined
