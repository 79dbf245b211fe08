use Rattle.std.proofs.Common.{◌≡◌, ℕ, ◌+◌, ◌-◌, length, get_or}
use Rattle.check_limits.proofs.weights.grow.Given as goal

abbrev pub invariant-loop-weights : goal.invariant-loop-weights
invariant-loop-weights l = (k : ℕ) → get_or l.weights k 0 ≡ get_or l.fn.weights k 0

abbrev pub decreases-loop-weights : goal.decreases-loop-weights
decreases-loop-weights l = l.name + 1 - length l.weights
