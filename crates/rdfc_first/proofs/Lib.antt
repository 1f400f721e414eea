pub mod Filters
pub mod Runs
pub mod MarkedLines
pub mod MentionLines
pub mod FirstHashes
pub mod BlankNumbers
