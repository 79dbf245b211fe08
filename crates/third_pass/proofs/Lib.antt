pub mod Absent
pub mod Emitted
pub mod Facts
pub mod Joined
pub mod Parts
