pub mod Widen
pub mod Far
