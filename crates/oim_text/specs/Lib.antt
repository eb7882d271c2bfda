pub mod Buffers
pub mod Places
pub mod Suffixes
pub mod state
