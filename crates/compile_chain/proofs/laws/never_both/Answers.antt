use Rattle.compile_chain.proofs.Decided.{never_both}
use Rattle.compile_chain.proofs.laws.never_both.Goals as goal

pub returns : goal.returns
returns c = never_both
