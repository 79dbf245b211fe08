pub mod Numbers
pub mod Renamed
pub mod Ways
pub mod Renumbering
pub mod Roles
pub mod Keeps
pub mod Relays
