pub mod Parts
pub mod Rising
pub mod Olds
pub mod Clashes
pub mod Below
pub mod Faults
