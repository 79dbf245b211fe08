use Rattle.std.proofs.Common.{◌≡◌, ◌+◌, ◌-◌, ◌^◌, min, map, take, sum}
use Rattle.c_syntax.specs.Costs.{item_cost}
use Rattle.c_costs.proofs.costs.cost_of_items.Given as goal

abbrev pub invariant-loop-item : goal.invariant-loop-item
invariant-loop-item l = l.cost ≡ min (2 + sum (map (item_cost l.bodies) (take l.item-index l.bodies))) (2 ^ 64 - 1)
