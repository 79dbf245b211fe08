pub mod Parts
pub mod Joined
pub mod Known
pub mod Numbers
pub mod Counted
