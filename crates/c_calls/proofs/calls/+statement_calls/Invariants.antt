use Rattle.std.proofs.Common.{◌≡◌, ◌++◌, take}
use Rattle.std.specs.List.{flat_map}
use Rattle.c_syntax.specs.Graph.{statement_calls, clause_calls}
use Rattle.c_calls.proofs.calls.+statement_calls.Given as goal

abbrev pub invariant-add_clauses-loop-clause : goal.invariant-add_clauses-loop-clause
invariant-add_clauses-loop-clause l = l.calls ≡ l.fn.calls ++ flat_map clause_calls (take l.clause-index l.clauses)

abbrev pub invariant-add_statements-loop-c : goal.invariant-add_statements-loop-c
invariant-add_statements-loop-c l = l.calls ≡ l.fn.calls ++ flat_map statement_calls (take l.c-index l.body)
