use Rattle.std.proofs.Common.{arith}
use Rattle.harden_lint.proofs.StartTable.{turn_table, last_table}
use Rattle.harden_lint.proofs.starts.find_starts.Goals as goal

pub loop-k-preserved : goal.loop-k-preserved
loop-k-preserved c = turn_table c.args.text.now c.args.entry c.loop-k.k c.len-n.result c.loop-k.bits.items c.mark_if.new.bits.items c.mark_if-in-loop-k.new.bits.items c.loop-k.outside c.left_if-outside.result c.left_if-outside-in-loop-k.result c.made-first.result c.len-n.ensures c.loop-k.invariant c.made-first.ensures c.left_if-outside.ensures c.mark_if.ensures c.left_if-outside-in-loop-k.ensures c.mark_if-in-loop-k.ensures

pub returns : goal.returns
returns c = last_table c.args.text.now c.args.entry c.loop-k.k c.loop-k.bits.items c.loop-k.outside (omega (arith, c.loop-k-test.false, c.loop-k.auto, c.len-n.ensures)) c.loop-k.invariant
