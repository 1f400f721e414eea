pub mod Absolute
pub mod Allowed
pub mod Colon
pub mod Cuts
pub mod Lengths
pub mod Loop
pub mod Spans
pub mod Walk
