pub mod Naming
pub mod Buffers
pub mod Courses
pub mod Outputs
