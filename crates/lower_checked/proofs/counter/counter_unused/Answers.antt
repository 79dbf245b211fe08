use Rattle.lower_checked.proofs.Unused.{counter_unused}
use Rattle.lower_checked.proofs.counter.counter_unused.Goals as goal

pub returns : goal.returns
returns c = counter_unused
