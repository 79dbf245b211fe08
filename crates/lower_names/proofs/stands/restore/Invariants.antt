use Rattle.std.proofs.Common.{◌≡◌, ◌⊎◌, ℕ, get_or, drop}
use Rattle.lower_expressions.specs.Names.{unknown}
use Rattle.lower_names.specs.Stands.{among}
use Rattle.lower_names.proofs.stands.restore.Given as goal

abbrev pub invariant-loop-v : goal.invariant-loop-v
invariant-loop-v l = (q : ℕ) → (get_or l.known.items q unknown ≡ among q l.v-index (drop l.v-index l.variables) (get_or l.before q unknown)) ⊎ (get_or l.known.items q unknown ≡ get_or l.before q unknown)
