pub mod LoweringBlocksLaws
pub mod LoweringWordsLaws
