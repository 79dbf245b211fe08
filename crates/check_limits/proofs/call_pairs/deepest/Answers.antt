use Rattle.std.proofs.Common.{◌+◌, true, arith}
use Rattle.c_syntax.specs.Costs.{function_weight}
use Rattle.check_limits.proofs.StoreWords.{greatest_more}
use Rattle.check_limits.proofs.call_pairs.deepest.Goals as goal

pub loop-item-preserved : goal.loop-item-preserved
loop-item-preserved c =
    let e = greatest_more (λ f. function_weight f + 2) c.args.from c.args.reached.now c.args.recursive.now true c.args.items.now c.loop-item.item-index c.item-item.result c.loop-item-test.true c.item-item.is in
    omega (arith, e, c.loop-item.invariant, c.deep_weight.ensures, c.max-most.ensures)
