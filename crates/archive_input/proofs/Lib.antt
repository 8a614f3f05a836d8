pub mod Asked
mod Firsts
pub mod InTurn
pub mod OnTheWay
mod One
mod Outcomes
pub mod Refusals
pub mod Refused
mod Served
pub mod Stepped
pub mod Stopped
mod Imported
pub mod Told
