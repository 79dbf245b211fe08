use Rattle.std.proofs.Common.{◌≡◌, take}
use Rattle.check_rules.specs.Walk.{param_types}
use Rattle.check_functions.proofs.items.types_of.Given as goal

abbrev pub invariant-loop-p : goal.invariant-loop-p
invariant-loop-p l = l.types ≡ param_types (take l.p-index l.params)
