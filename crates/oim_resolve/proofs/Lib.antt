pub mod Ascending
pub mod FactFacts
pub mod LeastFaults
pub mod Merges
pub mod Names
pub mod Outcomes
pub mod Overrides
pub mod RowFacts
pub mod Suffixes
mod Examples
mod ExamplesTypes
mod ExamplesOrigins
pub mod LevelOrder
pub mod FirstAnswers
pub mod Readings
pub mod WriterLevels
pub mod Steps
pub mod Found
