use Rattle.std.proofs.Common.{◌≡◌, ◌-◌, ◌^◌, min, map, take, sum}
use Rattle.c_syntax.specs.Costs.{label_cost}
use Rattle.c_costs.proofs.costs.cost_of_labels.Given as goal

abbrev pub invariant-loop-label : goal.invariant-loop-label
invariant-loop-label l = l.cost ≡ min (sum (map (label_cost l.bodies) (take l.label-index l.all))) (2 ^ 64 - 1)
