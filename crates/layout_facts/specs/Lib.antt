pub mod Signed
pub mod Words
pub mod Counted
pub mod Turning
pub mod Reached
