use Rattle.check_rules.specs.Limits.{label_calls}
use Rattle.check_limits.proofs.CallSites.{first_more}
use Rattle.check_limits.proofs.calls.in_labels.Goals as goal

pub loop-label-preserved : goal.loop-label-preserved
loop-label-preserved c =
    first_more c.args.weights.now label_calls c.args.labels.now c.loop-label.label-index c.label-item.result c.loop-label.first c.in_label.result c.or-first.result c.loop-label-test.true c.label-item.is c.loop-label.invariant c.in_label.ensures c.or-first.ensures
