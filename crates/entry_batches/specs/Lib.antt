pub mod Applied
pub mod Batches
pub mod Keys
pub mod Laws
pub mod Placed
pub mod Words
