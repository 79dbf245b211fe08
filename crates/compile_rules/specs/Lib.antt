pub mod Same
pub mod Hardened
pub mod Compiled
pub mod Refusals
