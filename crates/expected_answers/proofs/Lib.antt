pub mod Left
pub mod Stacked
