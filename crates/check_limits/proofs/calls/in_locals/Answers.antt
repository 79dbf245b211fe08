use Rattle.check_rules.specs.Limits.{local_calls}
use Rattle.check_limits.proofs.CallSites.{first_more}
use Rattle.check_limits.proofs.calls.in_locals.Goals as goal

pub loop-local-preserved : goal.loop-local-preserved
loop-local-preserved c =
    first_more c.args.weights.now local_calls c.args.locals.now c.loop-local.local-index c.local-item.result c.loop-local.first c.in_option.result c.or-first.result c.loop-local-test.true c.local-item.is c.loop-local.invariant c.in_option.ensures c.or-first.ensures
