pub mod Composed
pub mod Known
pub mod Leaf
