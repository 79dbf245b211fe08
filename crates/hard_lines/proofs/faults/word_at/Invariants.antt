use Rattle.std.proofs.Common.{◌≡◌, ◌≤◌, length}
use Rattle.hard_lines.specs.Faults.{word_at}
use Rattle.hard_lines.proofs.faults.word_at.Given as goal

abbrev pub invariant-loop-rest : goal.invariant-loop-rest
invariant-loop-rest l = record {
  word : word_at l.rest l.left ≡ word_at l.line l.word;
  left : 1 ≤ l.left;
}

abbrev pub decreases-loop-rest : goal.decreases-loop-rest
decreases-loop-rest l = length l.rest
