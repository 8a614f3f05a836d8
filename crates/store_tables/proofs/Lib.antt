pub mod Asking
mod BatchQueries
mod BatchStatements
mod BatchTexts
mod Begun
pub mod Calls
mod Changing
mod ClosedQueries
pub mod Coded
mod Created
mod Failing
pub mod Finding
mod KeyedQueries
mod KeyedTexts
mod LaterQueries
pub mod LaterStatements
mod LaterTexts
pub mod LaterTyped
pub mod LineStatements
mod LinkQueries
pub mod LinkStatements
pub mod LinkTexts
pub mod Loops
mod Owning
pub mod Packing
mod PackQueries
pub mod PackTexts
pub mod Pairing
pub mod PastQueries
mod PastStatements
mod PastTexts
mod Preparing
pub mod Queries
pub mod ReadingRows
pub mod Reopening
pub mod Showing
pub mod ShowingLater
mod SidePlaces
mod SideQueries
mod SideRows
mod SideStatements
mod SideTexts
mod SideTyped
mod SoughtQueries
pub mod SoughtStatements
pub mod SoughtTexts
mod SpanQueries
pub mod SpanStatements
pub mod SpanTexts
mod SpanTyped
pub mod Statements
mod Tagged
pub mod Texts
pub mod Typed
mod Updates
mod Widening
pub mod Writing
