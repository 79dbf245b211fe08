pub mod Called
pub mod CalledStatements
pub mod Callees
pub mod Leads
pub mod Shares
pub mod Chains
