pub mod Variables
pub mod Turns
pub mod Lists
pub mod Items
pub mod Steps
pub mod Going
