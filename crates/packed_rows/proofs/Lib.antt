pub mod Parted
pub mod Decimals
pub mod Texts
pub mod Lines
pub mod Found
pub mod OneText
pub mod Apart
