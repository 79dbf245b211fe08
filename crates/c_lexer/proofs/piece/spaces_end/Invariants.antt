use Rattle.std.proofs.Common.{◌≡◌, ◌≤◌, ◌<◌, ◌-◌, ℕ, true, length, slice_index}
use Rattle.c_lexer.specs.Bytes.{is_space}
use Rattle.c_lexer.proofs.piece.spaces_end.Given as goal

abbrev pub invariant-loop-end : goal.invariant-loop-end
invariant-loop-end l = (l.from ≤ l.end) × (l.end ≤ length l.text) × ((i : ℕ) → i < l.end → l.from ≤ i → is_space (slice_index l.text i) ≡ true)

abbrev pub decreases-loop-end : goal.decreases-loop-end
decreases-loop-end l = length l.text - l.end
