pub mod Choosing
pub mod Folding
pub mod Scans
pub mod Words
pub mod Lines
pub mod Printing
pub mod Walking
pub mod Wanted
