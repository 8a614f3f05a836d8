pub mod Known
pub mod Laws
pub mod Naming
pub mod Steps
