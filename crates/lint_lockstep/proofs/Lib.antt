pub mod Fetch
pub mod Sorts
pub mod Stages
