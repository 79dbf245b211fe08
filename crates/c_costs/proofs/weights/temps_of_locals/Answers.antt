use Rattle.std.proofs.Common.{arith}
use Rattle.c_syntax.specs.Costs.{local_temps}
use Rattle.c_syntax.proofs.Greatest.{greatest_more}
use Rattle.c_costs.proofs.weights.temps_of_locals.Goals as goal

pub loop-local-preserved : goal.loop-local-preserved
loop-local-preserved c = omega (arith, greatest_more local_temps c.args.locals.now c.loop-local.local-index c.local-item.result c.loop-local-test.true c.local-item.is, c.loop-local.invariant, c.temps_of_option.ensures, c.max-most.ensures)
