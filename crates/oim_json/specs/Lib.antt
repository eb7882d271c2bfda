pub mod JsonText
pub mod Document
pub mod Blocks
pub mod Lines
pub mod Sinks
pub mod FaultNames
pub mod state
