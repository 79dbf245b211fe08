use Rattle.std.proofs.Common.{arith}
use Rattle.c_syntax.specs.Costs.{label_temps}
use Rattle.c_syntax.proofs.Greatest.{greatest_more}
use Rattle.c_costs.proofs.weights.temps_of_labels.Goals as goal

pub loop-label-preserved : goal.loop-label-preserved
loop-label-preserved c = omega (arith, greatest_more label_temps c.args.all.now c.loop-label.label-index c.label-item.result c.loop-label-test.true c.label-item.is, c.loop-label.invariant, c.temps_of_label.ensures, c.max-most.ensures)
