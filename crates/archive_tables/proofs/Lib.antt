mod Checked
pub mod Looked
mod Recalled
mod Shown
pub mod Entered
pub mod PageLooked
mod RowsEntered
mod Sourced
mod Placed
mod Tried
