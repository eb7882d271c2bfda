pub mod Types
pub mod Parameters
pub mod Rising
pub mod InOrder
pub mod ReportValue
pub mod Places
pub mod Readers
pub mod state
