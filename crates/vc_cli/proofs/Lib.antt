pub mod CommandWords
pub mod KeyLines
