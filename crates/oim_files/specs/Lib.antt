pub mod Folders
pub mod Metadata
pub mod FileFaults
pub mod Steps
pub mod state
