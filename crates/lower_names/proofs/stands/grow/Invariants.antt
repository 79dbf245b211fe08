use Rattle.std.proofs.Common.{◌≡◌, ℕ, get_or, ◌-◌, ◌+◌, length}
use Rattle.lower_expressions.specs.Names.{unknown}
use Rattle.lower_names.proofs.stands.grow.Given as goal

abbrev pub invariant-loop-known : goal.invariant-loop-known
invariant-loop-known l = (q : ℕ) → get_or l.known.items q unknown ≡ get_or l.fn.known.items q unknown

abbrev pub decreases-loop-known : goal.decreases-loop-known
decreases-loop-known l = (l.index + 1) - length l.known.items
