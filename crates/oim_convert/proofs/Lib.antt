pub mod TableFiles
pub mod StreamHistories
pub mod SerialTables
pub mod SerialLaws
pub mod SentFacts
pub mod PutBlocks
pub mod OpeningLanes
pub mod ClosedFeeds
pub mod WrittenBack
pub mod ResultsAndDrains
pub mod Sends
pub mod RunHistories
pub mod OwnFaults
pub mod ResultCover
pub mod FaultTables
pub mod TableEndings
pub mod WrittenIds
mod Examples
mod ExamplesPrepared
