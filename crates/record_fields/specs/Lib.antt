pub mod Bytes
pub mod Codes
pub mod Dated
pub mod Dates
pub mod Items
pub mod Words
