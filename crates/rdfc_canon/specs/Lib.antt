pub mod Canon
pub mod Worked
pub mod Internal
