pub mod Parts
pub mod Files
pub mod Stands
pub mod Calls
