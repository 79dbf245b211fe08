pub mod Layout
pub mod Level
pub mod Signs
pub mod Typed
pub mod Laws
