use Rattle.std.proofs.Common.{◌≡◌, ◌++◌, take, map, flat_map}
use Rattle.lower_rules.specs.Programs.{declared}
use Rattle.lower_names.specs.Parts.{clause_declares}
use Rattle.lower_names.proofs.declared.+declared.Given as goal

abbrev pub invariant-push_clauses-loop-clause : goal.invariant-push_clauses-loop-clause
invariant-push_clauses-loop-clause l = l.out ≡ l.fn.out ++ flat_map (λ vs. vs) (map clause_declares (take l.clause-index l.all))

abbrev pub invariant-push_statements-loop-c : goal.invariant-push_statements-loop-c
invariant-push_statements-loop-c l = l.out ≡ l.fn.out ++ flat_map (λ vs. vs) (map declared (take l.c-index l.body))
