use Rattle.std.proofs.Common.{◌≡◌, take}
use Rattle.std.specs.List.{flat_map}
use Rattle.check_rules.specs.Limits.{bodies, body_calls}
use Rattle.check_limits.specs.Tables.{first_lacking}
use Rattle.check_limits.proofs.calls.in_items.Given as goal

abbrev pub invariant-loop-item : goal.invariant-loop-item
invariant-loop-item l = l.first ≡ first_lacking l.weights (flat_map body_calls (bodies (take l.item-index l.items)))
