pub mod OldTexts
pub mod OldLines
pub mod KeptAnew
pub mod ChangedLines
pub mod OneRecord
pub mod AllRecords
pub mod SlipsAnew
pub mod SoundAnew
pub mod OnceAnew
pub mod OneOld
pub mod Settling
pub mod Steps
mod Items
mod Later
mod Parted
mod OneOldContent
mod Rest
mod Written
mod Renewed
