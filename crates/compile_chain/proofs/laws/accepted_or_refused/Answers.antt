use Rattle.compile_chain.proofs.Decided.{accepted_or_refused}
use Rattle.compile_chain.proofs.laws.accepted_or_refused.Goals as goal

pub returns : goal.returns
returns c = accepted_or_refused c.each_text_has_a_result.ensures c.tree_or_none.ensures
