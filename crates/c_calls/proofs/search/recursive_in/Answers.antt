use Rattle.std.proofs.Common.{arith}
use Rattle.c_calls.proofs.Chains.{are_recursive}
use Rattle.c_calls.proofs.search.recursive_in.Goals as goal

pub returns : goal.returns
returns c = are_recursive c.args.graph.now c.loop-name.recursive.items (omega arith) (λ k lt. c.loop-name.invariant.answers k (omega arith))
