pub mod HeldMembers
pub mod Magnitudes
