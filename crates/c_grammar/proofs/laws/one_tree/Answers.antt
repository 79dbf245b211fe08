use Rattle.c_grammar.proofs.Programs.{one_tree}
use Rattle.c_grammar.proofs.laws.one_tree.Goals as goal

pub returns : goal.returns
returns c = one_tree
