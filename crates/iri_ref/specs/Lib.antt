pub mod Buffers
pub mod Characters
pub mod Components
pub mod Faults
pub mod Resolution
pub mod Internal
