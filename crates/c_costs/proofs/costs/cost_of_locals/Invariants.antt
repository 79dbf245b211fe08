use Rattle.std.proofs.Common.{◌≡◌, ◌-◌, ◌^◌, min, map, take, sum}
use Rattle.c_syntax.specs.Costs.{local_cost}
use Rattle.c_costs.proofs.costs.cost_of_locals.Given as goal

abbrev pub invariant-loop-local : goal.invariant-loop-local
invariant-loop-local l = l.cost ≡ min (sum (map (local_cost l.bodies) (take l.local-index l.locals))) (2 ^ 64 - 1)
