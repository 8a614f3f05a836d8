pub mod Remarks
pub mod Rows
pub mod History
