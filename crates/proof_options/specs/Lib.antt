pub mod Calendar
pub mod Stamps
pub mod Shape
pub mod Parts
pub mod Outcomes
pub mod Internal
