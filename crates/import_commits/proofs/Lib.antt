pub mod Settling
mod Batches
mod Imports
mod Others
mod Reading
