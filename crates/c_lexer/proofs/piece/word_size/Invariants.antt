use Rattle.std.proofs.Common.{◌≤◌, ◌<◌, ◌-◌, ℕ, length, slice_index}
use Rattle.c_lexer.specs.Fronts.{IsWordByte}
use Rattle.c_lexer.proofs.piece.word_size.Given as goal

abbrev pub invariant-loop-size : goal.invariant-loop-size
invariant-loop-size l = (l.size ≤ length l.text) × ((i : ℕ) → i < l.size → IsWordByte (slice_index l.text i))

abbrev pub decreases-loop-size : goal.decreases-loop-size
decreases-loop-size l = length l.text - l.size
