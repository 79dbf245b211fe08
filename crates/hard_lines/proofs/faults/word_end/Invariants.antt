use Rattle.std.proofs.Common.{◌≡◌, ℕ, ◌<◌, false, get_or}
use Rattle.hard_lines.specs.Faults.{is_gap}
use Rattle.hard_lines.proofs.faults.word_end.Given as goal

abbrev pub invariant-loop-at : goal.invariant-loop-at
invariant-loop-at l = (k : ℕ) → k < l.at → is_gap (get_or l.line k 0) ≡ false
