pub mod Windows
pub mod Lists
pub mod Entries
pub mod Once
pub mod Behind
pub mod Fields
pub mod Leaving
pub mod Whole
