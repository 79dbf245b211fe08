use Rattle.std.proofs.Common.{◌≡◌, length, arith}
use Rattle.check_statements.proofs.Types.{types_end, params_end}
use Rattle.check_functions.proofs.items.same_types.Goals as goal
use Rattle.check_functions.proofs.items.same_types.Goals.{then-loop-i-test+else-i-params, else-loop-i-test}

pub returns-then-i-types : goal.returns-then-i-types
returns-then-i-types c = types_end c.args.types.now c.args.params.now c.loop-i.i c.if-i-types.true c.loop-i.invariant.b c.loop-i.invariant.same

pub returns-else-i-types : goal.returns-else-i-types
returns-else-i-types c =
    let e : c.loop-i.i ≡ length c.args.params.now = elim c.loop-i-test.branch [ then-loop-i-test+else-i-params w ↦ omega arith | else-loop-i-test w ↦ omega arith ] in
    params_end c.args.types.now c.args.params.now c.loop-i.i e c.loop-i.invariant.a c.loop-i.invariant.same
