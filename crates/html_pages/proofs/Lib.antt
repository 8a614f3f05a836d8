pub mod Belonging
pub mod Framed
pub mod Leading
pub mod LeadingUp
mod Surnames
