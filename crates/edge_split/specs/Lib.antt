pub mod Split
pub mod Built
