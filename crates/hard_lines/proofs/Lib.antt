pub mod Digits
pub mod Reading
pub mod FaultWords
pub mod FaultBounds
