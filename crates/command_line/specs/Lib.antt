pub mod Commands
pub mod Described
pub mod Days
pub mod Meanings
pub mod Asking
pub mod Examples
