pub mod Explanations
pub mod ListedFaults
pub mod TablePlaces
pub mod state
