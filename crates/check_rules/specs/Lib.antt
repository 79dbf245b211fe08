pub mod Fault
pub mod Scopes
pub mod Walk
pub mod Limits
pub mod Resolution
pub mod Leaf
