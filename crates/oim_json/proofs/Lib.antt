pub mod Quoted
pub mod Joined
pub mod Blocks
pub mod Lines
mod Examples
pub mod Writes
pub mod Members
pub mod Chunks
pub mod Putting
