pub mod Locals
pub mod State
pub mod Ran
pub mod Standing
