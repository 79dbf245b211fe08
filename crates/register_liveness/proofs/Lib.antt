pub mod Wanted
pub mod Meeting
pub mod Rows
pub mod Valid
pub mod Links
pub mod Searching
pub mod Widening
pub mod Living
