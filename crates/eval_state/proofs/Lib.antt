pub mod Standing
pub mod Stores
pub mod Firsts
pub mod Uses
pub mod Padding
pub mod Writes
pub mod Binds
