use Rattle.std.proofs.Common.{arith}
use Rattle.check_limits.proofs.WeightLists.{weights_from}
use Rattle.check_limits.proofs.weights.weights_of.Goals as goal

pub loop-left-preserved : goal.loop-left-preserved
loop-left-preserved c = record {
  within = omega arith;
  weights = weights_from c.args.items.now c.index-items-left.result c.loop-left.left c.loop-left.weights c.put_item.new.weights (omega arith) c.loop-left.invariant.within c.index-items-left.is c.in_ok-put_item.ensures c.loop-left.invariant.weights;
}
