pub mod Reports
pub mod Tokens
