pub mod Form
pub mod Labelling
pub mod Numbering
