pub mod Arranging
pub mod Found
pub mod Leading
pub mod Places
