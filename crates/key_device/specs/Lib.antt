pub mod Devices
pub mod Exact
pub mod FailingDevices
pub mod HmacDevices
pub mod Internal
pub mod Ledgers
pub mod Tables
