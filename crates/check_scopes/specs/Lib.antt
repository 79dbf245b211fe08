pub mod Lookup
pub mod Pending
pub mod Gave
