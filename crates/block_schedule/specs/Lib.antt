pub mod Scheduling
pub mod Merging
pub mod Law
