pub mod Running
pub mod Rest
