use Rattle.std.proofs.Common.{◌≡◌, drop}
use Rattle.far_branches.specs.Widen.{first_goal}
use Rattle.edge_split.proofs.plan.first_branch_goal.Given as goal

abbrev pub invariant-loop-item : goal.invariant-loop-item
invariant-loop-item l = first_goal l.block (drop l.item-index l.items) ≡ first_goal l.block l.items
