pub mod Picked
pub mod Placed
pub mod Steps
pub mod EventLines
pub mod Families
pub mod Persons
pub mod Spelt
pub mod ByKind
