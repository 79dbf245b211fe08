use Rattle.std.proofs.Common.{arith}
use Rattle.c_meaning.proofs.Firsts.{arguments_more}
use Rattle.c_costs.proofs.weights.+temps_of_expression.Goals as goal

pub temps_of_arguments-loop-e-preserved : goal.temps_of_arguments-loop-e-preserved
temps_of_arguments-loop-e-preserved t c =
    let more = arguments_more c.args.all.now c.loop-e.e-index c.e-item.result c.loop-e-test.true c.e-item.is in (
      omega (arith, more, c.loop-e.invariant.0, c.loop-e.invariant.1, c.temps_of_expression.ensures, c.saturating_add.ensures, c.max-most.ensures),
      omega (arith, c.loop-e.invariant.1, c.saturating_add-before.ensures),
    )
