pub mod Shown
pub mod Marking
pub mod Grouping
