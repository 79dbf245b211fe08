pub mod Scan
pub mod Keeping
