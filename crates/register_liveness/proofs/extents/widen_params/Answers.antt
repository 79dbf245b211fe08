use Rattle.register_liveness.specs.Met.{by_call}
use Rattle.register_liveness.proofs.extents.widen_params.Goals as goal

pub widen-requires-clause-met : goal.widen-requires-clause-met
widen-requires-clause-met c = by_call c.loop-v-test.true
