pub mod Pass
pub mod Settle
pub mod Edges
pub mod Headed
