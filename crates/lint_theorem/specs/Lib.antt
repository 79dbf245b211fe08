pub mod Divert
pub mod Hardened
