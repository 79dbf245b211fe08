use Rattle.std.proofs.Common.{arith}
use Rattle.run_audit.proofs.StartBits.{turn_bits, last_bits}
use Rattle.run_audit.proofs.starts.find_starts.Goals as goal

pub loop-k-preserved : goal.loop-k-preserved
loop-k-preserved c =
    turn_bits c.args.text.now c.args.entry c.loop-k.k c.loop-k.bits.items c.mark_if.new.bits.items c.mark_if-in-loop-k.new.bits.items c.made-first.result c.loop-k.invariant c.made-first.ensures c.mark_if.ensures
    c.mark_if-in-loop-k.ensures

pub returns : goal.returns
returns c = last_bits c.args.text.now c.args.entry c.loop-k.k c.loop-k.bits.items (omega (arith, c.loop-k-test.false, c.loop-k.auto, c.len-n.ensures)) c.loop-k.invariant
