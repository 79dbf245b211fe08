use Rattle.std.proofs.Common.{◌≡◌, ℕ, ◌||◌, false, length, drop, get_or}
use Rattle.far_branches.specs.Far.{has}
use Rattle.far_branches.proofs.goals.mark_entries.Given as goal

abbrev pub invariant-loop-entry : goal.invariant-loop-entry
invariant-loop-entry l = (k : ℕ) → (get_or l.marks k false || has k (drop l.entry-index l.entries)) ≡ (get_or l.initial.marks k false || has k l.entries)
