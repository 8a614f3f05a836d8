mod Entered
pub mod Exactness
mod Fitting
pub mod Following
mod Named
mod Placed
pub mod Same
mod Sourced
mod Worded
