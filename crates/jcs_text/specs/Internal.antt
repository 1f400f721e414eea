pub mod Naming
pub mod Writing
