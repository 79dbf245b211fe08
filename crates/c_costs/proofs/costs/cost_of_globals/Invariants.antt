use Rattle.std.proofs.Common.{◌≡◌, ◌-◌, ◌^◌, min, map, take, sum}
use Rattle.c_syntax.specs.Costs.{global_cost}
use Rattle.c_costs.proofs.costs.cost_of_globals.Given as goal

abbrev pub invariant-loop-global : goal.invariant-loop-global
invariant-loop-global l = l.cost ≡ min (sum (map (global_cost l.bodies) (take l.global-index l.globals))) (2 ^ 64 - 1)
