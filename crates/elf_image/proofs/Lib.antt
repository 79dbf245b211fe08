pub mod Told
pub mod Has
pub mod Checks
pub mod Refused
pub mod Fields
pub mod Written
