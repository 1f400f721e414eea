pub mod Grammar
pub mod Writing
pub mod Equality
pub mod Refusals
pub mod Internal
pub mod Lines
