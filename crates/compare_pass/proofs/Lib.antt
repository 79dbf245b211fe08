pub mod Keeps
pub mod Forms
pub mod Counts
pub mod Halves
pub mod Added
pub mod Law
