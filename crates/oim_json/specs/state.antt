pub mod Chunks
pub mod Blocks
pub mod Writing
