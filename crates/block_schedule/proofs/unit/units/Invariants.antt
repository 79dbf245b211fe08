use Rattle.std.proofs.Common.{◌≡◌, ◌++◌, drop}
use Rattle.block_schedule.specs.Scheduling.{units, units_behind}
use Rattle.block_schedule.proofs.unit.units.Given as goal

abbrev pub invariant-loop-item : goal.invariant-loop-item
invariant-loop-item l = l.out.items ++ units_behind l.waiting (drop l.item-index l.items) ≡ units l.items
