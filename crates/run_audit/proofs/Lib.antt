pub mod StartBits
pub mod Stands
pub mod CleanRun
pub mod Answers
pub mod Decided
