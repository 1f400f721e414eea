pub mod Merging
pub mod Readings
