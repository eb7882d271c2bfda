pub mod Histories
pub mod Merging
pub mod Writers
pub mod state
