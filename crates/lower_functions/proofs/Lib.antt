pub mod Few
pub mod Numbered
pub mod Named
pub mod Listed
pub mod Agrees
