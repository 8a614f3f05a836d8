pub mod Displayed
pub mod Spreading
pub mod Listed
pub mod Stepped
pub mod Firsts
pub mod Going
pub mod Fronts
