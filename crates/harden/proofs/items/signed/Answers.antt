use Rattle.harden.proofs.Signed.{narrow, wide_formed, wide_is_few, sign_given}
use Rattle.harden.proofs.items.signed.Goals as goal

pub widen-requires-clause-few : goal.widen-requires-clause-few
widen-requires-clause-few c = narrow c.args.program c.requires.few

pub sign-requires-clause-well_formed : goal.sign-requires-clause-well_formed
sign-requires-clause-well_formed c = wide_formed c.args.program c.in_ok-wide.wide c.requires.in_order.apart (narrow c.args.program c.requires.few) c.in_ok-wide.ensures c.widened_keeps_runs.ensures

pub sign-requires-clause-few : goal.sign-requires-clause-few
sign-requires-clause-few c = wide_is_few c.args.program c.in_ok-wide.wide c.requires.in_order.apart c.in_ok-wide.ensures c.requires.few c.widened_keeps_counts.ensures

pub returns : goal.returns
returns c = sign_given c.args.program c.in_ok-wide.wide c.sign.result c.requires.in_order c.in_ok-wide.ensures c.requires.few c.requires.room c.widened_keeps_runs.ensures c.widened_keeps_counts.ensures c.widened_keeps_smooth.ensures c.widened_reaches.ensures c.can_be_prepared.ensures c.sign.ensures.program c.sign.ensures.signs
