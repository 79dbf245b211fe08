use Rattle.std.proofs.Common.{◌≡◌, ◌++◌, map, reverse, length}
use Rattle.check_scopes.specs.Pending.{whole}
use Rattle.check_scopes.proofs.pending.all_completed.Given as goal

abbrev pub invariant-loop-p : goal.invariant-loop-p
invariant-loop-p l = l.pending ++ reverse l.turned ≡ l.fn.pending

abbrev pub decreases-loop-p : goal.decreases-loop-p
decreases-loop-p l = length l.pending

abbrev pub invariant-loop-p-2 : goal.invariant-loop-p-2
invariant-loop-p-2 l = l.all ++ map whole (reverse l.turned) ≡ map whole l.fn.pending

abbrev pub decreases-loop-p-2 : goal.decreases-loop-p-2
decreases-loop-p-2 l = length l.turned
