pub mod Alike
pub mod Missing
