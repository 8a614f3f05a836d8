pub mod Pieces
pub mod Continuing
pub mod Refusals
pub mod Rules
pub mod Faults
pub mod Judging
pub mod Depth
pub mod Views
