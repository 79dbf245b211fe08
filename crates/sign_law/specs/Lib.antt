pub mod Graph
pub mod Signs
pub mod Search
pub mod Marks
