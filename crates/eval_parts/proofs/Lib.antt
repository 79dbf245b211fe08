pub mod Folds
pub mod Steps
pub mod Adds
pub mod Output
pub mod Falls
pub mod Standing
pub mod Lessening
