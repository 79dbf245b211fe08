use Rattle.check_limits.proofs.Functions.{heavy_more}
use Rattle.check_limits.proofs.main_function.heavy.Goals as goal

pub loop-item-preserved : goal.loop-item-preserved
loop-item-preserved c = heavy_more c.args.items.now c.loop-item.item-index c.item-item.result c.loop-item.first c.too_heavy.result c.or-first.result c.loop-item-test.true c.item-item.is c.loop-item.invariant c.too_heavy.ensures c.or-first.ensures
