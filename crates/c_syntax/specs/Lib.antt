pub mod Graph
pub mod Sizes
pub mod Costs
pub mod Shaped
pub mod Literals
pub mod Labels
