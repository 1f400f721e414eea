pub mod Digests
pub mod Labels
pub mod Arrays
pub mod Internal
