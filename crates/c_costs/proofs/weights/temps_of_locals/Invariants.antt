use Rattle.std.proofs.Common.{◌≡◌, ◌-◌, ◌^◌, min, map, take}
use Rattle.c_syntax.specs.Sizes.{greatest}
use Rattle.c_syntax.specs.Costs.{local_temps}
use Rattle.c_costs.proofs.weights.temps_of_locals.Given as goal

abbrev pub invariant-loop-local : goal.invariant-loop-local
invariant-loop-local l = l.most ≡ min (greatest (map local_temps (take l.local-index l.locals))) (2 ^ 64 - 1)
