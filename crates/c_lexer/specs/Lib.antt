pub mod Bytes
pub mod Constants
pub mod Fronts
pub mod Names
pub mod Pieces
pub mod Spelling
pub mod Tokens
pub mod Order
