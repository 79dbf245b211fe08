use Rattle.std.proofs.Common.{◌≤◌, ◌<◌, ◌-◌, ℕ, length, slice_index}
use Rattle.c_lexer.specs.Fronts.{IsLineByte}
use Rattle.c_lexer.proofs.piece.line_size.Given as goal

abbrev pub invariant-loop-size : goal.invariant-loop-size
invariant-loop-size l = (l.size ≤ length l.text) × ((i : ℕ) → i < l.size → IsLineByte (slice_index l.text i))

abbrev pub decreases-loop-size : goal.decreases-loop-size
decreases-loop-size l = length l.text - l.size
