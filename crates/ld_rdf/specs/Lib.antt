pub mod Plain
pub mod Flat
pub mod Reduced
pub mod Internal
