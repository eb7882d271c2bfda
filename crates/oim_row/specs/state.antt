pub mod Reading
pub mod Kept
pub mod Rows
