pub mod Image
pub mod HardenChainSteps
pub mod Blocks
pub mod CompileBlocksSteps
