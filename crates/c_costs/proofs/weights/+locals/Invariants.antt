use Rattle.std.proofs.Common.{◌≡◌, ◌-◌, ◌^◌, min, map, take, sum}
use Rattle.c_syntax.specs.Costs.{clause_locals, statement_locals}
use Rattle.c_costs.proofs.weights.+locals.Given as goal

abbrev pub invariant-locals_of_clauses-loop-clause : goal.invariant-locals_of_clauses-loop-clause
invariant-locals_of_clauses-loop-clause l = l.count ≡ min (sum (map clause_locals (take l.clause-index l.all))) (2 ^ 64 - 1)

abbrev pub invariant-locals_of_statements-loop-c : goal.invariant-locals_of_statements-loop-c
invariant-locals_of_statements-loop-c l = l.count ≡ min (sum (map statement_locals (take l.c-index l.all))) (2 ^ 64 - 1)
