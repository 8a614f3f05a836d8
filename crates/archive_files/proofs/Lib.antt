mod Failed
mod Found
mod Fresh
pub mod Leaving
pub mod Opened
mod Refusing
