pub mod TableFaults
pub mod Reading
pub mod Laws
pub mod state
