pub mod LinkLinks
pub mod Stored
mod Entries
pub mod Keyed
mod Lowest
pub mod Rising
pub mod MapKeys
pub mod Maps
pub mod Putting
pub mod Climbing
pub mod Known
pub mod Soundness
pub mod Keeping
pub mod Knowing
pub mod Changing
pub mod PathTexts
mod Readable
pub mod PathsAlike
pub mod Later
pub mod RenumberedLinks
pub mod Texts
pub mod Untaken
pub mod RenumberedEntries
pub mod Stops
