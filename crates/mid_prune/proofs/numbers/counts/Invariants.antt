use Rattle.std.proofs.Common.{◌≡◌, ◌<◌, ℕ, length, get_or}
use Rattle.mid_blocks.specs.Pruned.{marked_before}
use Rattle.mid_prune.proofs.numbers.counts.Given as goal

abbrev pub invariant-loop-at : goal.invariant-loop-at
invariant-loop-at l = record {
  long : length l.counts.items ≡ l.at;
  each : (i : ℕ) → i < l.at → get_or l.counts.items i 0 ≡ marked_before l.marks i;
  here : l.count ≡ marked_before l.marks l.at;
}
