use Rattle.std.proofs.Common.{◌≡◌, ◌≤◌, ◌-◌, length}
use Rattle.c_meaning.specs.Meaning.{padded}
use Rattle.eval_state.proofs.files.padded.Given as goal

abbrev pub invariant-loop-words : goal.invariant-loop-words
invariant-loop-words l = (length l.words.items ≤ l.count) × (padded l.count l.words.items ≡ padded l.count l.fn.words.items)

abbrev pub decreases-loop-words : goal.decreases-loop-words
decreases-loop-words l = l.count - length l.words.items
