pub mod KeyBlocks
