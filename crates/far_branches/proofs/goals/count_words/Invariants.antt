use Rattle.std.proofs.Common.{◌≡◌, ◌<◌, ◌≤◌, ℕ, ◌+◌, length, drop, get_or}
use Rattle.far_branches.specs.Far.{counted, sum_by_start}
use Rattle.far_branches.proofs.goals.count_words.Given as goal

abbrev pub invariant-loop-b : goal.invariant-loop-b
invariant-loop-b l = record {
  low : (s : ℕ) → get_or l.sums s 0 ≤ 30001;
  counts : (s : ℕ) → s < length l.sums → counted (get_or l.sums s 0 + sum_by_start l.starts s l.b (drop l.b l.blocks)) ≡ counted (sum_by_start l.starts s 0 l.blocks);
}
