pub mod Blanks
pub mod Internal
