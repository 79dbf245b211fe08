use Rattle.std.proofs.Common.{◌≡◌, ◌≤◌, ◌-◌, length, drop}
use Rattle.check_rules.specs.Walk.{same_types, param_types}
use Rattle.check_functions.proofs.items.same_types.Given as goal

abbrev pub invariant-loop-i : goal.invariant-loop-i
invariant-loop-i l = record { a : l.i ≤ length l.types; b : l.i ≤ length l.params; same : same_types (drop l.i l.types) (param_types (drop l.i l.params)) ≡ same_types l.types (param_types l.params) }

abbrev pub decreases-loop-i : goal.decreases-loop-i
decreases-loop-i l = length l.types - l.i
