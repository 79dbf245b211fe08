pub mod Absent
pub mod Facts
pub mod Doubled
pub mod Emitted
pub mod Parts
