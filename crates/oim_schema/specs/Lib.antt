pub mod Integers
pub mod Digits
pub mod DatesTimes
pub mod Durations
pub mod HexBinary
pub mod Units
pub mod Members
pub mod state
