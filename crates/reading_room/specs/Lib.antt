pub mod Listening
pub mod Room
pub mod Sheets
