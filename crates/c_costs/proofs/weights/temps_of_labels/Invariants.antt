use Rattle.std.proofs.Common.{◌≡◌, ◌-◌, ◌^◌, min, map, take}
use Rattle.c_syntax.specs.Sizes.{greatest}
use Rattle.c_syntax.specs.Costs.{label_temps}
use Rattle.c_costs.proofs.weights.temps_of_labels.Given as goal

abbrev pub invariant-loop-label : goal.invariant-loop-label
invariant-loop-label l = l.most ≡ min (greatest (map label_temps (take l.label-index l.all))) (2 ^ 64 - 1)
