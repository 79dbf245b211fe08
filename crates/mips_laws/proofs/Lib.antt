pub mod Locality
pub mod Runs
pub mod Beside
