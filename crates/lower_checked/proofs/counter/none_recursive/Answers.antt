use Rattle.lower_checked.proofs.Flat.{none_recursive}
use Rattle.lower_checked.proofs.counter.none_recursive.Goals as goal

pub returns : goal.returns
returns c = none_recursive
