pub mod Calendar
pub mod Digits
pub mod Periods
pub mod Table
pub mod Reads
pub mod Dates
pub mod state
