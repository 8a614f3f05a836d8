pub mod Counts
pub mod Civil
pub mod Julians
pub mod Republicans
pub mod Ends
pub mod Consecutive
