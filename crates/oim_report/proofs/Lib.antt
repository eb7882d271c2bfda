pub mod NamedFacts
pub mod PlaceFacts
pub mod TypesKept
pub mod ParameterFacts
pub mod GroupOrder
pub mod Searches
mod Examples
