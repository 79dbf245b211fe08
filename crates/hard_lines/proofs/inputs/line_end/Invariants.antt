use Rattle.std.proofs.Common.{◌≡◌, ℕ, ◌<◌, false, get_or}
use Rattle.hard_lines.specs.Inputs.{is_line_feed}
use Rattle.hard_lines.proofs.inputs.line_end.Given as goal

abbrev pub invariant-loop-at : goal.invariant-loop-at
invariant-loop-at l = (k : ℕ) → k < l.at → is_line_feed (get_or l.text k 0) ≡ false
