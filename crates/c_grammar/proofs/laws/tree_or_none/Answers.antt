use Rattle.c_grammar.proofs.Decided.{tree_or_none}
use Rattle.c_grammar.proofs.laws.tree_or_none.Goals as goal

pub returns : goal.returns
returns c = tree_or_none
