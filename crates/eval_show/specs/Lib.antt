pub mod EvalLines
pub mod Turns
