pub mod Exclusive
