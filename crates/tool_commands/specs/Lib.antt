pub mod Loaded
pub mod Passed
pub mod Ready
