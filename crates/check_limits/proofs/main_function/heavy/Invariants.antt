use Rattle.std.proofs.Common.{◌≡◌, take}
use Rattle.check_rules.specs.Limits.{first_too_heavy}
use Rattle.check_limits.proofs.main_function.heavy.Given as goal

abbrev pub invariant-loop-item : goal.invariant-loop-item
invariant-loop-item l = l.first ≡ first_too_heavy (take l.item-index l.items)
