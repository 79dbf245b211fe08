pub mod Frames
pub mod Lowered
