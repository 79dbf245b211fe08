use Rattle.std.proofs.Common.{◌≡◌, ◌-◌, ◌^◌, min, map, take, sum}
use Rattle.c_syntax.specs.Costs.{clause_cost, statement_cost}
use Rattle.c_costs.proofs.costs.+cost.Given as goal

abbrev pub invariant-cost_of_clauses-loop-clause : goal.invariant-cost_of_clauses-loop-clause
invariant-cost_of_clauses-loop-clause l = l.cost ≡ min (sum (map (clause_cost l.bodies) (take l.clause-index l.all))) (2 ^ 64 - 1)

abbrev pub invariant-cost_of_statements-loop-c : goal.invariant-cost_of_statements-loop-c
invariant-cost_of_statements-loop-c l = l.cost ≡ min (sum (map (statement_cost l.bodies) (take l.c-index l.all))) (2 ^ 64 - 1)
