pub mod Named
pub mod Types
