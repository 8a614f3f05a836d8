pub mod Lists
pub mod Characters
pub mod Ascii
pub mod Pages
pub mod Counting
pub mod FirstLines
pub mod Staying
