pub mod Texts
mod Growing
pub mod Places
pub mod Walked
pub mod Whole
mod Found
pub mod Households
pub mod Keeping
mod Lines
pub mod Moving
mod Nothing
mod Parted
