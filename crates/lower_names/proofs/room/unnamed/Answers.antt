use Rattle.std.proofs.Common.{arith}
use Rattle.lower_names.proofs.Counted.{param_counted}
use Rattle.lower_names.proofs.room.unnamed.Goals as goal

pub loop-param-preserved : goal.loop-param-preserved
loop-param-preserved c =
    param_counted c.args.params.now c.loop-param.param-index _ c.loop-param.count c.unnamed_one-count.result (omega (arith, c.loop-param-test.true)) c.loop-param.invariant c.unnamed_one-count.ensures
