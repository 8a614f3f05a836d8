pub mod Batches
pub mod Digests
pub mod Looks
pub mod Making
pub mod Placing
pub mod Words
