pub mod Faults
pub mod Beside
