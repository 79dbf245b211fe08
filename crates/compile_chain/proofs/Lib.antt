pub mod Compiled
pub mod Joined
pub mod Sources
pub mod Results
pub mod Starts
pub mod Decided
