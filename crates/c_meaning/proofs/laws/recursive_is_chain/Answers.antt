use Rattle.c_meaning.proofs.Recursive.{recursive_is_chain}
use Rattle.c_meaning.proofs.laws.recursive_is_chain.Goals as goal

pub returns : goal.returns
returns c = recursive_is_chain
