pub mod Observed
pub mod Stepping
