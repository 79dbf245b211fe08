use Rattle.std.proofs.Common.{◌≡◌, drop, map, ◌++◌}
use Rattle.edge_split.specs.Built.{plan_as, all_planned}
use Rattle.edge_split.proofs.plan.plans_of.Given as goal

abbrev pub invariant-loop-block : goal.invariant-loop-block
invariant-loop-block l = record {
  at : l.at ≡ l.block-index;
  listed : map plan_as l.plans.items ++ all_planned l.counts l.marks l.at (drop l.block-index l.blocks) ≡ all_planned l.counts l.marks 0 l.blocks;
}
