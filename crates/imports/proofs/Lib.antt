pub mod Keyed
mod Among
pub mod Drawn
pub mod SoundStanding
mod SoundLists
mod Fine
mod Left
mod ReadSources
mod Clean
mod Spelt
mod ReadEvents
mod ReadPersons
mod Once
mod ReadFamilies
mod Normal
mod ReadPlaces
mod ReadEntries
mod ReadNodes
mod Grown
mod Filed
mod Links
mod LinksOwned
mod Paths
mod LinksNodes
mod RootRecords
mod Going
mod Rooted
mod RootNumbers
mod Agreeing
mod Finding
mod Settling
mod DrawnWell
mod Targets
mod Judging
mod SoundKeys
pub mod Whole
mod LinksMet
mod Said
mod Within
mod New
mod MadePlaces
mod DrawnBatches
mod Counting
mod Least
mod Nodes
mod Positions
mod Seeking
mod Ways
mod Batches
mod Counts
mod Ordered
mod Parts
pub mod Commands
mod Decided
mod StepStanding
