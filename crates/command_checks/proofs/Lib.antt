mod PartByPart
mod Trimmed
pub mod Within
pub mod Found
pub mod Likes
pub mod Mentions
pub mod PlaceNames
mod Said
pub mod SaidPaths
