use Rattle.std.proofs.Common.{◌≡◌, ◌++◌, drop, flat_map}
use Rattle.block_schedule.specs.Scheduling.{unit_items, in_turn}
use Rattle.block_schedule.proofs.turns.put_in_turn.Given as goal

abbrev pub invariant-loop-round : goal.invariant-loop-round
invariant-loop-round l = l.out.items ++ flat_map unit_items (in_turn (drop l.round l.first) (drop l.round l.second)) ≡ l.initial.out.items ++ flat_map unit_items (in_turn l.first l.second)
