pub mod Observed
pub mod Following
pub mod Meeting
