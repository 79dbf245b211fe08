use Rattle.std.proofs.Common.{length, ◌≤◌, arith}
use Rattle.eval_state.proofs.Binds.{all_bound}
use Rattle.eval_state.proofs.params.params_in.Goals as goal

pub returns-in-None : goal.returns-in-None
returns-in-None c =
    let none : length c.args.args.now ≤ c.loop-i.i = omega (arith, c.in-None.ensures.lookup) in
    all_bound c.args.params.now c.args.args.now c.loop-i.i c.loop-i.invariant.0 c.loop-i.scopes none c.loop-i.invariant.1 c.loop-i.invariant.2
