use Rattle.std.proofs.Common.{◌≡◌, ◌-◌, ◌^◌, min, map, take}
use Rattle.c_syntax.specs.Sizes.{greatest}
use Rattle.c_syntax.specs.Costs.{clause_temps, statement_temps}
use Rattle.c_costs.proofs.weights.+temps.Given as goal

abbrev pub invariant-temps_of_clauses-loop-clause : goal.invariant-temps_of_clauses-loop-clause
invariant-temps_of_clauses-loop-clause l = l.most ≡ min (greatest (map clause_temps (take l.clause-index l.all))) (2 ^ 64 - 1)

abbrev pub invariant-temps_of_statements-loop-c : goal.invariant-temps_of_statements-loop-c
invariant-temps_of_statements-loop-c l = l.most ≡ min (greatest (map statement_temps (take l.c-index l.all))) (2 ^ 64 - 1)
