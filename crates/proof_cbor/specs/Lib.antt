pub mod Values
pub mod Refusals
pub mod Internal
pub mod Lines
