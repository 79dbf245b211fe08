pub mod LaidOut
pub mod Laws
pub mod Law
