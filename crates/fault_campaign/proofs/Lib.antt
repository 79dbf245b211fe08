pub mod Steps
pub mod Trying
