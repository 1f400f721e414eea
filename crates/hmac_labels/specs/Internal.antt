pub mod Searching
pub mod Relabelling
pub mod Labelling
