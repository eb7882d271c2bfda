pub mod Calls
pub mod Rooms
pub mod Turns
pub mod state
