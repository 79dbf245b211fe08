use Rattle.std.proofs.Common.{◌≡◌, drop, ◌++◌}
use Rattle.far_branches.specs.Far.{starts_by}
use Rattle.far_branches.proofs.goals.function_starts.Given as goal

abbrev pub invariant-loop-mark : goal.invariant-loop-mark
invariant-loop-mark l = record {
  at : l.at ≡ l.mark-index;
  listed : l.starts.items ++ starts_by l.at l.last (drop l.mark-index l.marks) ≡ starts_by 0 0 l.marks;
}
