use Rattle.std.proofs.Common.{◌≡◌, false, take, map}
use Rattle.lower_rules.specs.Programs.{some_of, returns_value}
use Rattle.lower_names.specs.Parts.{clause_returns}
use Rattle.lower_names.proofs.returns.+returns.Given as goal

abbrev pub invariant-returns_value-loop-c : goal.invariant-returns_value-loop-c
invariant-returns_value-loop-c l = some_of (map returns_value (take l.c-index l.body)) ≡ false

abbrev pub invariant-clauses_return-loop-clause : goal.invariant-clauses_return-loop-clause
invariant-clauses_return-loop-clause l = some_of (map clause_returns (take l.clause-index l.all)) ≡ false
