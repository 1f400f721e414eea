pub mod Pointers
pub mod Naming
pub mod Kept
pub mod Selection
pub mod Examples
pub mod Internal
