use Rattle.std.proofs.Common.{◌≡◌, ◌≤◌, ◌-◌, length}
use Rattle.c_meaning.specs.Meaning.{padded}
use Rattle.lower_names.proofs.files.padded.Given as goal

abbrev pub invariant-loop-list : goal.invariant-loop-list
invariant-loop-list l = (length l.list.items ≤ l.count) × (padded l.count l.list.items ≡ padded l.count l.fn.words)

abbrev pub decreases-loop-list : goal.decreases-loop-list
decreases-loop-list l = l.count - length l.list.items
