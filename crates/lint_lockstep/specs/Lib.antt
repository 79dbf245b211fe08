pub mod Sorts
pub mod Law
