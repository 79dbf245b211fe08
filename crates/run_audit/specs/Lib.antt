pub mod Audits
pub mod Errors
pub mod Turns
pub mod AuditLines
