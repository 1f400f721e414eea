pub mod Replies
pub mod ReplyTrees
pub mod HexDigits
pub mod Requests
pub mod Issuing
pub mod Verifying
pub mod Answers
pub mod Internal
