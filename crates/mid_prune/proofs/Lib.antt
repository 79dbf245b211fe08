pub mod Trimming
pub mod Marking
pub mod Spreading
pub mod Keeping
pub mod Used
