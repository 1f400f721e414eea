pub mod Clashes
pub mod Labels
pub mod Internal
