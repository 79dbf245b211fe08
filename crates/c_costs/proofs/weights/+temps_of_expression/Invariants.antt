use Rattle.std.proofs.Common.{◌≡◌, ◌-◌, ◌^◌, min, map, take}
use Rattle.c_syntax.specs.Costs.{need, argument_temps}
use Rattle.c_costs.proofs.weights.+temps_of_expression.Given as goal

abbrev pub invariant-temps_of_arguments-loop-e : goal.invariant-temps_of_arguments-loop-e
invariant-temps_of_arguments-loop-e l = (l.most ≡ min (argument_temps 0 (map need (take l.e-index l.all))) (2 ^ 64 - 1)) × (l.before ≡ min l.e-index (2 ^ 64 - 1))
