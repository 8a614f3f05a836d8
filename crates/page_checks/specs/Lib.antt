pub mod Cells
pub mod Findings
pub mod Laws
pub mod Lines
pub mod Page
pub mod Rows
pub mod Unread
pub mod Refusing
