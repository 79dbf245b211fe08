pub mod Aliases
pub mod Listing
