pub mod Dated
pub mod Dates
pub mod Items
pub mod Worded
pub mod WordTexts
