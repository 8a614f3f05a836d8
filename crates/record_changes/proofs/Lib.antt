pub mod Alike
pub mod Exactness
pub mod Fitting
pub mod Following
pub mod Keeping
pub mod Lists
