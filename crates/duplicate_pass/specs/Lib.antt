pub mod Emits
pub mod Doubled
pub mod Ready
