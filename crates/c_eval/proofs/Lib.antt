pub mod Stacked
pub mod Entering
pub mod Turning
