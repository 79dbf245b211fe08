use Rattle.check_limits.proofs.Functions.{named_found, named_not}
use Rattle.check_limits.proofs.main_function.find.Goals as goal

pub returns-in-Some : goal.returns-in-Some
returns-in-Some c = named_found c.args.name c.args.items.now c.loop-item.item-index c.item-item.result c.in-Some.function.now c.loop-item-test.true c.item-item.is c.loop-item.invariant c.in-Some.ensures

pub loop-item-preserved : goal.loop-item-preserved
loop-item-preserved c = named_not c.args.name c.args.items.now c.loop-item.item-index c.item-item.result c.loop-item-test.true c.item-item.is c.loop-item.invariant c.in_default.ensures
