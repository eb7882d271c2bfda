pub mod DocumentCounts
pub mod Keys
pub mod TableRows
