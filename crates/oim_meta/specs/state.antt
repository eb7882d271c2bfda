pub mod Places
pub mod Walks
pub mod Reading
pub mod Order
pub mod Refusals
