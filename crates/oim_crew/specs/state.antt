pub mod Views
pub mod Claims
pub mod Shifts
