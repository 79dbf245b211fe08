pub mod Laws
pub mod Law
pub mod Parts
