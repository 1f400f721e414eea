pub mod Mentions
pub mod Grouping
