use Rattle.std.proofs.Common.{◌≡◌, map, take}
use Rattle.check_rules.specs.Limits.{joined, statement_calls}
use Rattle.check_limits.specs.Tables.{first_lacking, clause_calls}
use Rattle.check_limits.proofs.calls.+statements.Given as goal

abbrev pub invariant-in_clauses-loop-clause : goal.invariant-in_clauses-loop-clause
invariant-in_clauses-loop-clause l = l.first ≡ first_lacking l.weights (joined (map clause_calls (take l.clause-index l.clauses)))

abbrev pub invariant-in_statements-loop-c : goal.invariant-in_statements-loop-c
invariant-in_statements-loop-c l = l.first ≡ first_lacking l.weights (joined (map statement_calls (take l.c-index l.body)))
