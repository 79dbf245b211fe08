use Rattle.std.proofs.Common.{◌≤◌, ◌<◌, ◌-◌, ℕ, length}
use Rattle.c_lexer.specs.Pieces.{ClosesAt}
use Rattle.c_lexer.proofs.piece.close_at.Given as goal

abbrev pub invariant-loop-at : goal.invariant-loop-at
invariant-loop-at l = (2 ≤ l.at) × (l.at ≤ length l.text) × ((i : ℕ) → i < l.at → 2 ≤ i → ClosesAt l.text i → ⊥)

abbrev pub decreases-loop-at : goal.decreases-loop-at
decreases-loop-at l = length l.text - l.at
