pub mod Calendars
pub mod Props
pub mod Told
pub mod Within
pub mod Bounds
pub mod Laws
