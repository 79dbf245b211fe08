pub mod LoweringCallsLaws
pub mod LoweringChainsLaws
