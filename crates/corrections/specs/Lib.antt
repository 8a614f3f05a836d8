pub mod Corrections
pub mod Fields
pub mod Laws
pub mod Lists
