pub mod RefusalLines
pub mod Failures
pub mod Files
pub mod Pairs
pub mod Edges
pub mod Outcomes
pub mod Parts
pub mod Summaries
