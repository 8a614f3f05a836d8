mod Added
mod Firsts
mod OnTheWay
mod OneBatch
mod Placed
mod Placing
pub mod Taking
pub mod Wide
