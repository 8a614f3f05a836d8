pub mod Appending
pub mod Called
pub mod Finding
pub mod Knowing
pub mod Same
pub mod Standing
