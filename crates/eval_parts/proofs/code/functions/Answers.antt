use Rattle.std.proofs.Common.{◌+◌, arith}
use Rattle.eval_parts.proofs.Standing.{noted_next}
use Rattle.eval_parts.proofs.code.functions.Goals as goal

pub loop-i-preserved : goal.loop-i-preserved
loop-i-preserved c =
    noted_next c.loop-i.table.items c.note.new.table.items c.args.items.now c.loop-i.i (c.loop-i.i + 1) c.index-items-i.result (omega arith) c.index-items-i.is c.loop-i.invariant (omega arith) c.in_ok-note.ensures
