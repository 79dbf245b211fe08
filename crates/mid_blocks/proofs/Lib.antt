pub mod Positions
pub mod Deciding
pub mod LiveLines
pub mod ValidLines
