pub mod Uses
pub mod Blocks
pub mod Search
pub mod Met
