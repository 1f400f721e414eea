pub mod Sizes
pub mod Padding
pub mod Labels
