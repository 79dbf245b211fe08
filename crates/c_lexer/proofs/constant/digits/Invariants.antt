use Rattle.std.proofs.Common.{◌≡◌, ◌≤◌, ◌<◌, ◌-◌, ◌^◌, ℕ, length, slice_index, min, take}
use Rattle.c_lexer.specs.Constants.{digit_worth, worth}
use Rattle.c_lexer.proofs.constant.digits.Given as goal

abbrev pub invariant-loop-size : goal.invariant-loop-size
invariant-loop-size l = (l.size ≤ length l.text) × ((i : ℕ) → i < l.size → digit_worth (slice_index l.text i) < l.base) × (l.worth ≡ min (worth l.base (take l.size l.text)) (2 ^ 32))

abbrev pub decreases-loop-size : goal.decreases-loop-size
decreases-loop-size l = length l.text - l.size
