pub mod Parts
pub mod Finish
pub mod Work
pub mod Steps
pub mod Tables
