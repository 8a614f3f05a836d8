pub mod Model
pub mod Escapes
pub mod Names
pub mod Pages
pub mod Marks
pub mod Outside
