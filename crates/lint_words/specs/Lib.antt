pub mod Decoded
pub mod Words
pub mod Around
pub mod Windows
pub mod Shapes
pub mod WindowList
