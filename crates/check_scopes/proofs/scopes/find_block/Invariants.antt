use Rattle.std.proofs.Common.{◌≡◌, ◌≤◌, length, take, reverse}
use Rattle.check_rules.specs.Scopes.{innermost_known}
use Rattle.check_scopes.proofs.scopes.find_block.Given as goal

abbrev pub invariant-loop-left : goal.invariant-loop-left
invariant-loop-left l = record { within : l.left ≤ length l.scopes; same : innermost_known l.name (reverse (take l.left l.scopes)) ≡ innermost_known l.name (reverse l.scopes) }

abbrev pub decreases-loop-left : goal.decreases-loop-left
decreases-loop-left l = l.left
