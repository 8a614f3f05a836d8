mod Changing
pub mod Outcomes
mod Positions
mod Repeated
mod Same
mod Words
