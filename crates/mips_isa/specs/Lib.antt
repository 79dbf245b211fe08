pub mod Rows
pub mod Table
pub mod Inverse
pub mod Machine
pub mod Runs
pub mod Image
pub mod Locality
