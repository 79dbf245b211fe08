pub mod Trimmed
pub mod Counts
pub mod Work
pub mod Trims
