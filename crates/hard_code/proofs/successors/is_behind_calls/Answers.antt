use Rattle.std.proofs.Common.{arith}
use Rattle.hard_code.proofs.Behind.{walk_end}
use Rattle.hard_code.proofs.successors.is_behind_calls.Goals as goal

pub returns : goal.returns
returns c = walk_end c.args.entries.now c.args.entry c.args.list.now c.args.blocks.now c.loop-number.at c.loop-number.number (omega arith) c.loop-number.invariant
