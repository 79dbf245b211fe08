use Rattle.std.proofs.Common.{◌≡◌, ℕ, ◌+◌, ◌-◌, length, get_or, false}
use Rattle.c_costs.proofs.bodies.grow.Given as goal

abbrev pub invariant-loop-bodies : goal.invariant-loop-bodies
invariant-loop-bodies l = (k : ℕ) → get_or l.bodies k false ≡ get_or l.fn.bodies k false

abbrev pub decreases-loop-bodies : goal.decreases-loop-bodies
decreases-loop-bodies l = l.name + 1 - length l.bodies
