pub mod Operators
pub mod Run
pub mod Meaning
pub mod Laws
