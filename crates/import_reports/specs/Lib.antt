pub mod Heads
pub mod Records
pub mod Reports
pub mod Writing
