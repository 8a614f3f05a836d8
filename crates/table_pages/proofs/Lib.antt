pub mod Decoded
pub mod Roles
