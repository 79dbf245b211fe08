pub mod Answering
pub mod Members
pub mod Pairs
pub mod Aliasing
