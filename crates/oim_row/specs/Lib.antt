pub mod Rows
pub mod Sources
pub mod Answers
pub mod References
pub mod Groups
pub mod state
