pub mod Beyond
pub mod Written
pub mod Plain
pub mod Marks
