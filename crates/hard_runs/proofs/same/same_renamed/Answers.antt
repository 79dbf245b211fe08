use Rattle.hard_runs.proofs.Observed.{same_renamed}
use Rattle.hard_runs.proofs.same.same_renamed.Goals as goal

pub returns : goal.returns
returns g c = same_renamed _ _
