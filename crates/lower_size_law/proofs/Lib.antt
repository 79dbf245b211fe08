pub mod Reach
pub mod Lively
pub mod Pigeons
pub mod Cost
pub mod Narrow
pub mod NarrowStatements
pub mod Programs
