pub mod Counted
pub mod Built
