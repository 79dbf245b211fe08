use Rattle.std.proofs.Common.{◌≡◌, ◌≤◌, ℕ, get_or, drop, length}
use Rattle.lower_expressions.specs.Names.{unknown}
use Rattle.lower_names.specs.Stands.{among}
use Rattle.lower_names.proofs.stands.fill.Given as goal

abbrev pub invariant-loop-number : goal.invariant-loop-number
invariant-loop-number l = (l.number ≤ length l.variables) × ((q : ℕ) → get_or l.known.items q unknown ≡ among q l.number (drop l.number l.variables) (get_or l.fn.known.items q unknown))

abbrev pub decreases-loop-number : goal.decreases-loop-number
decreases-loop-number l = l.number
