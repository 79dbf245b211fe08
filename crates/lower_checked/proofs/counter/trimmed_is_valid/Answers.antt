use Rattle.lower_checked.proofs.Unused.{trimmed_is_valid}
use Rattle.lower_checked.proofs.counter.trimmed_is_valid.Goals as goal

pub returns : goal.returns
returns c = trimmed_is_valid
