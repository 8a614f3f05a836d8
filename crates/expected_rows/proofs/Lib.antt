pub mod Answered
pub mod Asking
pub mod Foretold
pub mod InOrder
pub mod Looked
