use Rattle.std.proofs.lemmas.Result.{IfOk-weaker}
use Rattle.c_calls.proofs.search.recursive_functions.Goals as goal

pub returns : goal.returns
returns c = IfOk-weaker c.recursive_in.result _ _ (λ r h. h c.args.items.now c.in_ok-graph.ensures) c.recursive_in.ensures
