pub mod Closing
pub mod Leaving
pub mod DatabaseOpening
pub mod Made
pub mod Opening
