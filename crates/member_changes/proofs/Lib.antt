pub mod EventFits
pub mod FamilyFits
pub mod Lists
pub mod Members
pub mod Refusing
pub mod Stepping
