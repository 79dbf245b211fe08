use Rattle.std.proofs.Common.{◌≡◌, ◌++◌, drop}
use Rattle.block_schedule.specs.Scheduling.{with_nops}
use Rattle.block_schedule.proofs.spaces.space.Given as goal

abbrev pub invariant-loop-item : goal.invariant-loop-item
invariant-loop-item l = record {
  put : l.out.items ++ with_nops l.last l.quiet (drop l.item-index l.items) ≡ with_nops 0 0 l.items;
}
