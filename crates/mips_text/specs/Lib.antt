pub mod Text
pub mod Blocks
pub mod Turns
pub mod Starts
pub mod DeadWords
pub mod Loads
pub mod Typing
pub mod Forms
