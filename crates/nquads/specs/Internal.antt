pub mod Parts
pub mod Meaning
pub mod Parsing
pub mod Lines
pub mod Storing
pub mod TextLines
