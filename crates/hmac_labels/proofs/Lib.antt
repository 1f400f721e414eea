pub mod Numbers
pub mod Searching
pub mod Turns
pub mod Relabelling
pub mod Answering
pub mod Grammar
pub mod Runs
pub mod SameBlanks
