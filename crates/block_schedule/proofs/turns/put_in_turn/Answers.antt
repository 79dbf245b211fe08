use Rattle.block_schedule.proofs.Turning.{round_put}
use Rattle.std.proofs.Common.{◌++◌, flat_map}
use Rattle.block_schedule.specs.Scheduling.{unit_items, in_turn}
use Rattle.block_schedule.proofs.turns.put_in_turn.Goals as goal

pub loop-round-preserved : goal.loop-round-preserved
loop-round-preserved c = round_put c.args.first.now c.args.second.now c.loop-round.round c.loop-round.out.items c.put_at.new.out.items c.put_at-in-loop-round.new.out.items
    (c.args.out.now.items ++ flat_map unit_items (in_turn c.args.first.now c.args.second.now)) c.loop-round.invariant c.in_ok-put_at.ensures c.in_ok-put_at-2.ensures
