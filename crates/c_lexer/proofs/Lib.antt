pub mod Tables
pub mod Longest
pub mod Splits
pub mod Spelled
pub mod OneResult
pub mod Lexed
pub mod Total
