use Rattle.std.proofs.Common.{◌≡◌, ◌++◌, drop, flat_map}
use Rattle.block_schedule.specs.Scheduling.{unit_items, riffled, turned}
use Rattle.block_schedule.proofs.turns.turn.Given as goal

abbrev pub invariant-loop-unit : goal.invariant-loop-unit
invariant-loop-unit l = l.out.items ++ flat_map unit_items (riffled l.first.items l.second.items (drop l.unit-index l.unit-items)) ≡ turned l.items
