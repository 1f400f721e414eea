pub mod Counting
pub mod Drawing
pub mod Halves
pub mod NewLedgers
pub mod Owning
pub mod Recording
