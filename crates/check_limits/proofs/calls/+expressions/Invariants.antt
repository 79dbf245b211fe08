use Rattle.std.proofs.Common.{◌≡◌, map, take}
use Rattle.check_rules.specs.Limits.{joined, expression_calls}
use Rattle.check_limits.specs.Tables.{first_lacking}
use Rattle.check_limits.proofs.calls.+expressions.Given as goal

abbrev pub invariant-in_expressions-loop-e : goal.invariant-in_expressions-loop-e
invariant-in_expressions-loop-e l = l.first ≡ first_lacking l.weights (joined (map expression_calls (take l.e-index l.all)))
