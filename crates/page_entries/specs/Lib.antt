pub mod Checks
pub mod Dates
pub mod Digits
pub mod Entries
pub mod Months
pub mod Pages
pub mod Places
pub mod Under
