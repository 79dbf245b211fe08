use Rattle.std.proofs.Common.{sym, arith}
use Rattle.mid_code.proofs.Counting.{too_many}
use Rattle.mid_code.proofs.validity.count_lines.Goals as goal

pub returns-then-steps-lines : goal.returns-then-steps-lines
returns-then-steps-lines c = sym (too_many c.args.blocks.now c.args.before c.loop-block.lines c.loop-block.block-index c.block-item.result c.loop-block-test.true c.block-item.is c.loop-block.invariant.counted c.loop-block.invariant.few (omega arith))
