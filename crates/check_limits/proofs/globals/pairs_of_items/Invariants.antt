use Rattle.std.proofs.Common.{◌≡◌, take}
use Rattle.check_rules.specs.Limits.{global_pairs}
use Rattle.check_limits.specs.Calls.{capped}
use Rattle.check_limits.proofs.globals.pairs_of_items.Given as goal

abbrev pub invariant-loop-item : goal.invariant-loop-item
invariant-loop-item l = l.pairs ≡ capped (global_pairs (take l.item-index l.items))
