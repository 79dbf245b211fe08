pub mod Example
pub mod Tests
pub mod Windows
pub mod Counting
pub mod Calling
