use Rattle.std.proofs.Common.{◌≡◌, ℕ, ◌-◌, ◌+◌, length}
use Rattle.lower_names.specs.Calls.{callee_in}
use Rattle.lower_names.proofs.calls.grow.Given as goal

abbrev pub invariant-loop-all : goal.invariant-loop-all
invariant-loop-all l = (q : ℕ) → callee_in l.all.items q ≡ callee_in l.fn.all.items q

abbrev pub decreases-loop-all : goal.decreases-loop-all
decreases-loop-all l = (l.index + 1) - length l.all.items
