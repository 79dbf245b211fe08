pub mod Renumber
pub mod Relays
