pub mod Unique
pub mod Solutions
pub mod Returning
pub mod Kept
mod Readings
mod Laying
mod Merging
mod Protection
mod Layered
mod RowOrder
mod Returns
mod Chain
mod Counting
mod Making
mod Partial
mod Chains
mod Existence
