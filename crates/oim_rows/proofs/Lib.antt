mod Places
mod Repeats
mod FactLists
pub mod StreamLaws
mod ReadCells
mod EarlyCells
mod WholeLaw
mod DotFacts
mod FactIds
mod Examples
mod OrderedIds
mod MovedIds
