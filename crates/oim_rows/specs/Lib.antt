pub mod FaultNames
pub mod Header
pub mod RowFacts
pub mod Streams
pub mod Left
pub mod WholeTable
pub mod Identifiers
pub mod state
