pub mod Picked
pub mod Found
pub mod DaysMet
pub mod KeptSpans
pub mod OneList
