use Rattle.harden.proofs.Splitting.{ordered_few, split_given}
use Rattle.harden.proofs.items.order_split.Goals as goal

pub split-requires-clause-few : goal.split-requires-clause-few
split-requires-clause-few c = ordered_few c.args.program c.in_ok-ordered.ordered c.in_ok-ordered.ensures c.requires.few

pub returns : goal.returns
returns c = split_given c.args.program c.in_ok-ordered.ordered c.in_ok-ordered.ensures c.requires.few c.smoothed_keeps_runs.ensures c.smoothed_keeps_counts.ensures c.smoothed_is_smooth.ensures c.split.result c.split.ensures
