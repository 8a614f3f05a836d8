pub mod Answers
pub mod Keys
pub mod Likes
pub mod NewPlaces
