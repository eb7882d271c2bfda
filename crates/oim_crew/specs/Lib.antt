pub mod Numbers
pub mod Claims
pub mod Shifts
pub mod state
