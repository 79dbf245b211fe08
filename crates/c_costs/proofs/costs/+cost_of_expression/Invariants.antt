use Rattle.std.proofs.Common.{◌≡◌, ◌-◌, ◌^◌, min, map, take, sum}
use Rattle.c_syntax.specs.Costs.{expression_cost}
use Rattle.c_costs.proofs.costs.+cost_of_expression.Given as goal

abbrev pub invariant-cost_of_expressions-loop-e : goal.invariant-cost_of_expressions-loop-e
invariant-cost_of_expressions-loop-e l = l.cost ≡ min (sum (map (expression_cost l.bodies) (take l.e-index l.all))) (2 ^ 64 - 1)
