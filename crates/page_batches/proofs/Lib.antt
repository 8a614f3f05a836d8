pub mod Hexed
pub mod OnTheWay
