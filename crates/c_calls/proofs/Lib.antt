pub mod Lists
pub mod Growth
pub mod Searches
pub mod Chains
