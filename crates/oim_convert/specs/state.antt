pub mod Steps
pub mod TableFiles
pub mod Preparing
pub mod Reading
pub mod Working
pub mod Serial
pub mod Tasks
