use Rattle.std.proofs.Common.{◌≡◌, drop, ◌++◌}
use Rattle.far_branches.specs.Far.{fars_by}
use Rattle.far_branches.proofs.goals.far_goals.Given as goal

abbrev pub invariant-loop-block : goal.invariant-loop-block
invariant-loop-block l = record {
  at : l.at ≡ l.block-index;
  listed : l.fars.items ++ fars_by l.starts l.sums l.at (drop l.block-index l.blocks) ≡ fars_by l.starts l.sums 0 l.blocks;
}
