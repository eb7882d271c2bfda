pub mod Facts
pub mod state
