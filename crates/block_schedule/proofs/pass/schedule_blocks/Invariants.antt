use Rattle.std.proofs.Common.{◌≡◌, map}
use Rattle.block_schedule.specs.Scheduling.{scheduled_block}
use Rattle.block_schedule.proofs.pass.schedule_blocks.Given as goal

abbrev pub invariant-loop-block : goal.invariant-loop-block
invariant-loop-block l = l.out.items ≡ map scheduled_block l.yielded
