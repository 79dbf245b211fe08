use Rattle.std.proofs.Common.{[], ◌∷◌, take}
use Rattle.std.specs.List.{flat_map}
use Rattle.check_rules.specs.Limits.{bodies, body_calls}
use Rattle.check_limits.proofs.CallSites.{first_of, body_calls_more}
use Rattle.check_limits.proofs.calls.in_items.Goals as goal

pub loop-item-preserved : goal.loop-item-preserved
loop-item-preserved c =
    first_of c.args.weights.now c.loop-item.first c.in_item.result c.or-first.result (flat_map body_calls (bodies (take c.loop-item.item-index c.args.items.now))) (flat_map body_calls (bodies (c.item-item.result ∷ []))) _
    c.loop-item.invariant c.in_item.ensures c.or-first.ensures (body_calls_more c.args.items.now c.loop-item.item-index c.item-item.result c.loop-item-test.true c.item-item.is)
