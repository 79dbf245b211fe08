pub mod Cases
pub mod Laws
pub mod Counter
pub mod Leading
pub mod Law
pub mod Fits
