pub mod Campaign
pub mod Runs
pub mod Tallies
