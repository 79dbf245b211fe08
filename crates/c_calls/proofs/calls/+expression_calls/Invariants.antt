use Rattle.std.proofs.Common.{◌≡◌, ◌++◌, take}
use Rattle.std.specs.List.{flat_map}
use Rattle.c_syntax.specs.Graph.{expression_calls}
use Rattle.c_calls.proofs.calls.+expression_calls.Given as goal

abbrev pub invariant-add_expressions-loop-e : goal.invariant-add_expressions-loop-e
invariant-add_expressions-loop-e l = l.calls ≡ l.fn.calls ++ flat_map expression_calls (take l.e-index l.all)
