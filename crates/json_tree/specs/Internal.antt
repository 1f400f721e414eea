pub mod Misplaced
pub mod Reading
pub mod Writes
