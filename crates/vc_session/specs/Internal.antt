pub mod Drafts
pub mod RequestMembers
pub mod Outcomes
pub mod Tasks
