pub mod Again
pub mod Leaf
pub mod Laws
