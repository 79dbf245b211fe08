pub mod Smooth
pub mod WidenLawLaw
pub mod SplitLawLaw
