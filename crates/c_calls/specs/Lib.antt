pub mod Reached
pub mod Lists
pub mod Search
