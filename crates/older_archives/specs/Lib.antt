pub mod Dates
pub mod Old
pub mod Lines
pub mod RecordReading
pub mod Anew
pub mod Meaning
pub mod Reading
pub mod Renewing
